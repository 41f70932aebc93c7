use Rattle.ksi_split.proofs.Fronts.{ends_there}
use Rattle.ksi_split.proofs.laws.no_way_goes_on.Goals as goal

pub returns : goal.returns
returns c = λ t u n sides more a b. ends_there t u n sides more a b
