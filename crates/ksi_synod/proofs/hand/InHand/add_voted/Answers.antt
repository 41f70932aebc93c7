use Rattle.std.proofs.Common.{refl}
use Rattle.ksi_synod.proofs.hand.InHand.add_voted.Goals as goal
use Rattle.ksi_synod.proofs.hand.InHand.add_voted.Goals.{then-is_majority, else-is_majority}

pub returns-clause-first : goal.returns-clause-first
returns-clause-first c = elim c.if-is_majority.branch [
  | then-is_majority w ↦ rw (w.result-is, ← c.self.view_is, ← c.is_majority.ensures, ← c.is_majority-before.ensures, w.if-is_majority.true) refl
  | else-is_majority w ↦ rw (w.result-is, ← c.self.view_is, ← c.is_majority.ensures, w.if-is_majority.false) refl
]
