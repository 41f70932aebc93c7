use Rattle.std.proofs.Common.{◌≡◌, ℕ, List, take}
use Rattle.std.specs.Prelude.{is_some}
use Rattle.std.specs.Ordering.{nat_cmp}
use Rattle.std.specs.BTreeSet.{contains}
use Rattle.ksi_aggregator.specs.declared.fact.Fact.{Fact}
use Rattle.ksi_aggregator.specs.Lawful.{stored_by}
use Rattle.ksi_roundstore.specs.Written.{AreTexts}
use Rattle.ksi_roundstore.proofs.answered.answered_in.Given as goal

-- the responses among so many facts were noted
abbrev pub invariant-noting : goal.invariant-noting
invariant-noting l = (facts : List Fact) → AreTexts l.plan l.me facts l.records → (t : ℕ) → contains nat_cmp l.answered t ≡ is_some (stored_by (take l.k facts) t).answered
