use Rattle.std.proofs.Common.{◌+◌, arith}
use Rattle.ksi_calendar.specs.Climbing.{calendar_join}
use Rattle.ksi_calendar.specs.Calendar.{calendar_leaf}
use Rattle.ksi_calendar.specs.Covered.{covered_seconds}
use Rattle.ksi_journal.specs.Journal.{root_at}
use Rattle.ksi_extender.proofs.Covered.{is_extended}
use Rattle.ksi_extender.proofs.laws.covered_is_extended.Goals as goal

pub returns : goal.returns
returns c = λ image journal bytes signature chains p images is are h.
    is_extended image images journal is (c.one_first_missing.ensures.none (root_at journal) journal.start)
    (λ p covered. omega (arith, ((c.calendar_is_covered.ensures.within image journal p is).1 covered).1, c.calendar_is_covered.ensures.early image journal is))
    (λ t p few. c.one_path.ensures.length (calendar_join image) (calendar_leaf (covered_seconds (root_at journal) journal.start p)) 0 t (p + 1) 63 few)
    c.extended_is_short.ensures c.signature_is_read.ensures.signature bytes signature chains p are h
