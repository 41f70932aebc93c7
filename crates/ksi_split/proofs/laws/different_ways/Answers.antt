use Rattle.ksi_split.proofs.Fronts.{one_leaf}
use Rattle.ksi_split.proofs.laws.different_ways.Goals as goal

pub returns : goal.returns
returns c = λ t u n sides a b. one_leaf t u n sides a b
