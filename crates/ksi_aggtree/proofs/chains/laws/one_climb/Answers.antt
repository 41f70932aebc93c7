use Rattle.std.proofs.Common.{refl}
use Rattle.ksi_aggtree.specs.Climbing.{climbed}
use Rattle.ksi_aggtree.proofs.ClimbLemmas.{either, one_top, climb_both, over_both, not_both, one_fault}
use Rattle.ksi_aggtree.proofs.chains.laws.one_climb.Goals as goal

pub returns-clause-some : goal.returns-clause-some
returns-clause-some c = λ image start links. either image start links

pub returns-clause-one_top : goal.returns-clause-one_top
returns-clause-one_top c = λ image start one other links. one_top image start one other links

pub returns-clause-one_fault : goal.returns-clause-one_fault
returns-clause-one_fault c = one_fault

pub returns-clause-not_both : goal.returns-clause-not_both
returns-clause-not_both c = not_both

pub returns-clause-climbs : goal.returns-clause-climbs
returns-clause-climbs c = λ image start top links. climb_both image start links (climbed image 0 start links) refl top

pub returns-clause-over : goal.returns-clause-over
returns-clause-over c = λ image start links place high. over_both image start links (climbed image 0 start links) refl place high
