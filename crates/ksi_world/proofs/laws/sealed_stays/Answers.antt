use Rattle.ksi_world.proofs.SealedStays.{after_stays}
use Rattle.ksi_world.proofs.laws.sealed_stays.Goals as goal

pub returns : goal.returns
returns c = after_stays
