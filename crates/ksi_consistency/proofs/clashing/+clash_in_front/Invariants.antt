use Rattle.ksi_consistency.proofs.clashing.+clash_in_front.Given as goal

abbrev pub decreases-clash_in_front : goal.decreases-clash_in_front
decreases-clash_in_front g l = l.new
