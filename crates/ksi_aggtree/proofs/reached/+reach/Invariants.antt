use Rattle.ksi_aggtree.proofs.reached.+reach.Given as goal

abbrev pub decreases-reach : goal.decreases-reach
decreases-reach l = l.count
