use Rattle.ksi_aggtree.proofs.ClimbLemmas.{climbed_both, climbs_apart, climbs_joined}
use Rattle.ksi_aggtree.proofs.chains.laws.one_after_another.Goals as goal

pub returns-clause-together : goal.returns-clause-together
returns-clause-together c = λ image start middle top links more. climbs_joined image start middle top links more

pub returns-clause-apart : goal.returns-clause-apart
returns-clause-apart c = λ image start top links more. climbs_apart image start top links more

pub returns-clause-value : goal.returns-clause-value
returns-clause-value c = λ image start middle links more place. climbed_both image place start middle links more
