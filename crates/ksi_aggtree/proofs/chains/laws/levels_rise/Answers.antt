use Rattle.ksi_aggtree.proofs.ClimbLemmas.{level_of_top, level_rises}
use Rattle.ksi_aggtree.proofs.chains.laws.levels_rise.Goals as goal

pub returns-clause-sum : goal.returns-clause-sum
returns-clause-sum c = λ image start top links. level_of_top image start top links

pub returns-clause-count : goal.returns-clause-count
returns-clause-count c = level_rises
