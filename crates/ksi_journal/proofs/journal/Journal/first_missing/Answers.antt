use Rattle.std.proofs.Common.{◌≡◌, ℕ, ◌≤◌, Option, Some, None, subst, sym}
use Rattle.std.specs.Prelude.{◌↔◌, IsSome}
use Rattle.ksi_calendar.specs.Covered.{IsFirstMissing}
use Rattle.ksi_journal.specs.Journal.{root_at}
use Rattle.ksi_journal.proofs.Run.{missing_is}
use Rattle.ksi_journal.proofs.journal.Journal.first_missing.Goals as goal

pub returns-clause-value : goal.returns-clause-value
returns-clause-value g c =
    missing_is g.C.Compress.image c.args.self.now c.behind.ensures.journal c.one_first_missing.ensures.some c.one_first_missing.ensures.none c.args.p
    c.behind.result c.behind.ensures.some c.behind.ensures.none

pub returns-clause-some : goal.returns-clause-some
returns-clause-some g c second =
    let now = c.args.self.now in
    subst (λ (r : Option ℕ). (r ≡ Some second) ↔ IsFirstMissing (root_at now) now.start c.args.p second) (sym (returns-clause-value g c))
    (c.one_first_missing.ensures.some (root_at now) now.start c.args.p second)

pub returns-clause-none : goal.returns-clause-none
returns-clause-none g c =
    let now = c.args.self.now in
    subst (λ (r : Option ℕ). (r ≡ None) ↔ ((t : ℕ) → now.start ≤ t → t ≤ c.args.p → IsSome (root_at now t))) (sym (returns-clause-value g c))
    (c.one_first_missing.ensures.none (root_at now) now.start c.args.p)
