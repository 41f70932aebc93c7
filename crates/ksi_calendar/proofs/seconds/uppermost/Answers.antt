use Rattle.std.proofs.Common.{◌∙◌, arith}
use Rattle.std.proofs.Math.ListN.{length-set}
use Rattle.ksi_calendar.proofs.SideLemmas.{next_side}
use Rattle.ksi_calendar.proofs.seconds.uppermost.Goals as goal

pub loop-place-preserved : goal.loop-place-preserved
loop-place-preserved c =
    let links = c.args.links.now in
    let place = c.loop-place.place in
    record {
      room = length-set c.loop-place.sides place _ ∙ c.loop-place.invariant.room;
      so_far = next_side links place c.index-links-links.result (omega (arith, c.loop-place-test.true, c.requires.there)) c.loop-place.sides
          (omega (arith, c.loop-place-test.true, c.requires.few, c.loop-place.invariant.room)) c.loop-place.invariant.so_far;
    }
