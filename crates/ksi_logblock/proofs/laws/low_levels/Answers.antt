use Rattle.ksi_logblock.proofs.Climbs.{low}
use Rattle.ksi_logblock.proofs.laws.low_levels.Goals as goal

pub returns : goal.returns
returns c = λ image line root proof. low image line root proof
