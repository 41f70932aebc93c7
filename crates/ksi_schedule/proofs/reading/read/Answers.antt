use Rattle.ksi_schedule.specs.Pieces.{lines}
use Rattle.ksi_schedule.proofs.Wanting.{wanting_behind_three}
use Rattle.ksi_schedule.proofs.reading.read.Goals as goal

pub returns-clause-memory : goal.returns-clause-memory
returns-clause-memory c = λ e.
    wanting_behind_three c.in-Some-version.version c.in-Some.line.now c.in-Some-next_line.line.now c.in-Some-next_line-2.line.now
    (lines c.args.text.now) (lines c.in-Some.text.now) (lines c.in-Some-next_line.text.now) (lines c.in-Some-next_line-2.text.now)
    c.in-Some-number_line.cores c.in-Some-number_line-2.start c.bare.result
    c.in-Some.ensures.0 c.in-Some-next_line.ensures.0 c.in-Some-next_line-2.ensures.0
    c.in-Some-version.ensures c.in-Some-number_line.ensures.value c.in-Some-number_line-2.ensures.value c.bare.ensures (c.read_rest.ensures.memory e)
