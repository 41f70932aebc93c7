use Rattle.ksi_split.proofs.Within.{tree_at}
use Rattle.ksi_split.proofs.Upward.{path_at}
use Rattle.ksi_split.proofs.trees.enough_levels.Goals as goal

pub returns-clause-tree : goal.returns-clause-tree
returns-clause-tree g c = λ join leaf k lo n few. tree_at join leaf k lo n few

pub returns-clause-path : goal.returns-clause-path
returns-clause-path g c = λ join leaf k lo t n few. path_at join leaf k lo t n few
