use Rattle.ksi_world.proofs.Rooted.{published_kept, are_before}
use Rattle.ksi_world.proofs.laws.published_roots.Goals as goal

pub returns : goal.returns
returns c = λ image plan before later is are. published_kept image plan is c.steps_agree.ensures.agreement before later (are_before plan before later are) are
