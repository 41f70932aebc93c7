use Rattle.ksi_mirror.proofs.Faults.{no_tree, no_voters}
use Rattle.ksi_mirror.proofs.laws.no_tree_and_no_voters.Goals as goal

pub returns-clause-tree : goal.returns-clause-tree
returns-clause-tree c = no_tree

pub returns-clause-voters : goal.returns-clause-voters
returns-clause-voters c = no_voters
