use Rattle.ksi_world.proofs.Growing.{after_grew}
use Rattle.ksi_world.proofs.laws.closed_stays.Goals as goal

pub returns : goal.returns
returns c = λ image plan before later aggregator second entries is. (after_grew image plan before later).closed aggregator second entries is
