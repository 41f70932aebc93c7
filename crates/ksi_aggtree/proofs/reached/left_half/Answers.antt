use Rattle.std.proofs.Common.{arith}
use Rattle.ksi_aggtree.proofs.Halves.{left_half}
use Rattle.ksi_aggtree.proofs.reached.left_half.Goals as goal

pub returns-clause-left : goal.returns-clause-left
returns-clause-left c = left_half _ _ _ c.split.ensures.power c.split.ensures.below c.requires.few

pub returns-clause-right : goal.returns-clause-right
returns-clause-right c =
    let left = left_half _ _ _ c.split.ensures.power c.split.ensures.below c.requires.few in
    let greatest = c.split.ensures.greatest in omega arith
