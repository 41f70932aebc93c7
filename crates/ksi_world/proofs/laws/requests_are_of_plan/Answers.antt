use Rattle.ksi_world.proofs.Asking.{after_asks}
use Rattle.ksi_world.proofs.laws.requests_are_of_plan.Goals as goal

pub returns : goal.returns
returns c = λ image plan events are number asked at. after_asks image plan events are number asked at
