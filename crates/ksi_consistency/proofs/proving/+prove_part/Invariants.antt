use Rattle.ksi_consistency.proofs.proving.+prove_part.Given as goal

abbrev pub decreases-prove_part : goal.decreases-prove_part
decreases-prove_part g l = l.new
