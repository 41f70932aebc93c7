use Rattle.ksi_consistency.proofs.clashing.+clash_below.Given as goal

abbrev pub decreases-clash_below : goal.decreases-clash_below
decreases-clash_below g l = l.last
