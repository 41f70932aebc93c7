use Rattle.ksi_consistency.proofs.proving.+needed.Given as goal

abbrev pub decreases-needed : goal.decreases-needed
decreases-needed l = l.new
