use Rattle.ksi_world.proofs.Choosing.{after_chosen}
use Rattle.ksi_world.proofs.laws.chosen.Goals as goal

pub returns : goal.returns
returns c = λ image plan before later is are second ballot root chosen core e. after_chosen c.chosen.ensures.steps image plan before later is are second ballot root chosen core e
