use Rattle.std.proofs.Common.{length, ap, ◌∙◌, arith}
use Rattle.ksi_imprint.specs.Imprints.{imprint_of}
use Rattle.ksi_calendar.specs.Calendar.{Seconds}
use Rattle.ksi_replay.proofs.covered.greatest_covered.Goals as goal

pub last_from-requires : goal.last_from-requires
last_from-requires c =
    let count = c.count.ensures ∙ ap (λ (s : Seconds). length s.roots) c.calendar.ensures in
    omega (arith, c.start-start.ensures.start, count, c.calendar_is_covered.ensures.early imprint_of c.args.journal.now c.start-start.ensures.journal)
