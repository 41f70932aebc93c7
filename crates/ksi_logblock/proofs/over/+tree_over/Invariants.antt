use Rattle.ksi_logblock.proofs.over.+tree_over.Given as goal

abbrev pub decreases-tree_over : goal.decreases-tree_over
decreases-tree_over g l = l.height
