use Rattle.std.proofs.Common.{◌≡◌, ◌<◌, ◌+◌, length, arith, ◌∙◌}
use Rattle.ksi_imprint.specs.declared.refused.Refused.TheVariants as refused
use Rattle.ksi_schedule.specs.Pieces.{lines}
use Rattle.ksi_schedule.proofs.LineLoop.{goes_on, stops_there, ends, wants_memory}
use Rattle.ksi_schedule.proofs.Wanting.{wanting_here, wanting_next}
use Rattle.ksi_schedule.proofs.reading.read_rest.Goals as goal

pub reading-preserved : goal.reading-preserved
reading-preserved c =
    let shorter : length c.in-Some.others.now < length c.reading.rest.now = c.in-Some.ensures.1 in
    let next : c.saturating_add-number.result ≡ c.reading.number + 1 = omega arith in
    record {
      left = rw next (goes_on c.args.version c.reading.number _ (lines c.in-Some.others.now) c.in-Some.line.now c.reading.schedule c.take_line.new.schedule _ c.reading.invariant.left c.in-Some.ensures.0 c.in-Ok.ensures.read);
      behind = λ w. c.reading.invariant.behind (wanting_next c.args.version c.reading.schedule c.take_line.new.schedule c.in-Some.line.now (lines c.reading.rest.now) (lines c.in-Some.others.now) c.in-Some.ensures.0 c.in-Ok.ensures.read w);
      fits = omega arith;
    }

pub returns-in-Err-clause-read : goal.returns-in-Err-clause-read
returns-in-Err-clause-read c =
    rw c.on_line.ensures (stops_there c.args.version c.reading.number _ (lines c.in-Some.others.now) c.in-Some.line.now c.reading.schedule c.take_line.new.schedule c.in-Err.refused _ c.reading.invariant.left c.in-Some.ensures.0 c.in-Err.ensures.read)

pub returns-in-Err-clause-memory : goal.returns-in-Err-clause-memory
returns-in-Err-clause-memory c = λ e.
    let wanting : c.in-Err.refused ≡ refused.NoMemory = wants_memory c.reading.number c.in-Err.refused c.on_line.result c.on_line.ensures cc in
    c.reading.invariant.behind (wanting_here c.args.version c.reading.schedule c.in-Some.line.now (lines c.reading.rest.now) (lines c.in-Some.others.now) c.in-Some.ensures.0 (c.in-Err.ensures.memory cc))

pub returns-clause-read : goal.returns-clause-read
returns-clause-read c = ends c.args.version c.reading.number _ c.reading.schedule _ c.reading.invariant.left c.in_default.ensures ∙ cc
