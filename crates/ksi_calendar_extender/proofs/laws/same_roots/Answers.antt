use Rattle.std.proofs.Common.{◌∙◌, ◌≤◌, ℕ, List, Option, ap, sym}
use Rattle.std.specs.Prelude.{is_some}
use Rattle.ksi_journal.specs.Journal.{root_at}
use Rattle.ksi_calendar_extender.specs.Kept.{journal_of}
use Rattle.ksi_calendar_extender.proofs.Rooted.{root_leaf}
use Rattle.ksi_calendar_extender.proofs.Same.{same_extension}
use Rattle.ksi_calendar_extender.proofs.laws.same_roots.Goals as goal

pub returns : goal.returns
returns c = λ image journal seconds bytes p covered start each.
    let roots = root_at journal in
    let others = root_at (journal_of seconds) in
    let some = λ (t : ℕ) (from : seconds.start ≤ t) (to : t ≤ p). ap (λ (o : Option (List ℕ)). is_some o) (each t from to) in
    let mine = c.one_journal.ensures.covered seconds p covered in
    same_extension image journal seconds bytes p start
    (λ t from to. each t from to ∙ sym (root_leaf seconds p covered t from to))
    ((c.one_first_missing.ensures.none roots seconds.start p).1 some ∙ sym (c.one_journal.ensures.missing seconds p covered))
    (c.more_is_known.ensures.seconds roots others seconds.start p (record { from = mine.from; each = some }) (λ t from to root is. root_leaf seconds p covered t from to ∙ sym (each t from to) ∙ is))
