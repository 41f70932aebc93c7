use Rattle.ksi_world.proofs.Rooted.{still_held}
use Rattle.ksi_world.proofs.laws.held_stays.Goals as goal

pub returns : goal.returns
returns c = still_held
