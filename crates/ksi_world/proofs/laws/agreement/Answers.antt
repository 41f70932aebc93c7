use Rattle.ksi_world.proofs.Deciding.{after_agrees}
use Rattle.ksi_world.proofs.laws.agreement.Goals as goal

pub returns : goal.returns
returns c = λ image h is are. after_agrees image h.plan is c.steps_agree.ensures.agreement h.events are
