use Rattle.ksi_logblock.proofs.beneath.+parts_below.Given as goal

abbrev pub decreases-parts_below : goal.decreases-parts_below
decreases-parts_below g l = l.count
