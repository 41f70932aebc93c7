use Rattle.std.proofs.Common.{◌+◌}
use Rattle.ksi_calendar.specs.Climbing.{calendar_join}
use Rattle.ksi_calendar.specs.Calendar.{calendar_leaf}
use Rattle.ksi_calendar.specs.Covered.{covered_seconds}
use Rattle.ksi_journal.specs.Journal.{root_at}
use Rattle.ksi_extender.proofs.Again.{again}
use Rattle.ksi_extender.proofs.Whole.{accepted_by}
use Rattle.ksi_extender.proofs.laws.extended_is_accepted.Goals as goal

pub returns-clause-accepted : goal.returns-clause-accepted
returns-clause-accepted c = λ image journal bytes text signature p fits read e publications.
    accepted_by image (λ signature chains some. c.aggregation.ensures image signature chains some) (λ signature hash publications t. c.accepted.ensures image signature hash publications t)
    (λ seconds t p to. c.one_chain.ensures.climbs image seconds t p to) (λ seconds t p. c.one_chain.ensures.way image seconds t p) c.one_way.ensures.way
    c.one_covered.ensures.leaves journal bytes p text signature ((c.signature_is_read.ensures.signature bytes signature fits).1 read) e publications

pub returns-clause-again : goal.returns-clause-again
returns-clause-again c = λ image journal bytes text signature p images is early fits read e.
    again image (λ signature chains some. c.aggregation.ensures image signature chains some) images journal is
    (λ t p few. c.one_path.ensures.length (calendar_join image) (calendar_leaf (covered_seconds (root_at journal) journal.start p)) 0 t (p + 1) 63 few)
    (λ bytes signature chain published. c.extended_is_signature.ensures bytes signature chain published)
    bytes text p signature early fits read ((c.signature_is_read.ensures.signature bytes signature fits).1 read) e
