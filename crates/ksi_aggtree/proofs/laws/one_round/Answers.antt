use Rattle.ksi_aggtree.proofs.ItemChains.{tree_rises}
use Rattle.ksi_aggtree.proofs.laws.one_round.Goals as goal

pub returns-clause-level : goal.returns-clause-level
returns-clause-level c = λ image. tree_rises image c.enough_levels.ensures.tree
