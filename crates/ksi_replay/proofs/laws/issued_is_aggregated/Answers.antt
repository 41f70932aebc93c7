use Rattle.ksi_replay.proofs.Chaining.{issued_aggregated}
use Rattle.ksi_replay.proofs.laws.issued_is_aggregated.Goals as goal

pub returns : goal.returns
returns c = λ image second input links above top are climbs. issued_aggregated image (c.aggregation.ensures image) second input links above top are climbs
