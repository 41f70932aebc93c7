use Rattle.ksi_calendar.specs.Calendar.{calendar_leaf}
use Rattle.ksi_auditor.specs.Audit.{laid_if, links_of}
use Rattle.std.proofs.Common.{◌∙◌}
use Rattle.ksi_calendar_auditor.specs.Kept.{journal_with}
use Rattle.ksi_calendar_auditor.specs.Audited.{published}
use Rattle.ksi_calendar_auditor.proofs.Accepting.{covers, decided, leads, to}
use Rattle.ksi_calendar_auditor.proofs.Keeping.{its_calendar, its_items}
use Rattle.ksi_calendar_auditor.proofs.laws.audit_is_laid.Goals as goal

pub returns-clause-to : goal.returns-clause-to
returns-clause-to c = λ image seconds p signature hash t passes. to c.accepted.ensures image seconds p signature hash t passes

pub returns-clause-leads : goal.returns-clause-leads
returns-clause-leads c = λ image seconds p signature hash t covered passes. leads c.accepted.ensures image seconds p signature hash t passes c.one_climb.ensures.value covered

pub returns-clause-laid : goal.returns-clause-laid
returns-clause-laid c = λ image seconds p items signature hash t covered passes journal root.
    let led = leads c.accepted.ensures image seconds p signature hash t passes c.one_climb.ensures.value covered in
    let kept = c.one_journal.ensures.covered seconds led.calendar.publication led.covered in
    let is_decided = decided image seconds items signature led kept (λ u early. c.one_journal.ensures.leaves seconds led.calendar.publication u led.covered early) (c.one_covered.ensures.root image) in
    let are = c.kept_items.ensures image items t (calendar_leaf seconds t) journal root in
    let same = its_items image seconds items p t (covers seconds p covered) (to c.accepted.ensures image seconds p signature hash t passes) are.tree in
    c.decided_is_laid.ensures.laid image (journal_with seconds items) signature hash (published image seconds p) t passes is_decided
    ∙ (λ i. laid_if image (its_calendar seconds items i) (same i) (links_of signature) hash t signature.calendar)
