use Rattle.ksi_world.proofs.Rooted.{answered_kept}
use Rattle.ksi_world.proofs.laws.answered_roots.Goals as goal

pub returns : goal.returns
returns c = λ image plan before later is are. answered_kept image plan is c.steps_agree.ensures.agreement before later are
