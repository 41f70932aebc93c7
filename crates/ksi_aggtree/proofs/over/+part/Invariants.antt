use Rattle.ksi_aggtree.proofs.over.+part.Given as goal

abbrev pub decreases-part : goal.decreases-part
decreases-part g l = l.height
