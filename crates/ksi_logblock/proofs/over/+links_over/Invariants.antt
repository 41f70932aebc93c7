use Rattle.ksi_logblock.proofs.over.+links_over.Given as goal

abbrev pub decreases-links_over : goal.decreases-links_over
decreases-links_over g l = l.height
