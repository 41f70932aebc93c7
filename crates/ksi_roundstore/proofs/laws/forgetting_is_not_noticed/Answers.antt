use Rattle.ksi_roundstore.proofs.Unnoticed.{events_alike}
use Rattle.ksi_roundstore.proofs.laws.forgetting_is_not_noticed.Goals as goal

pub returns-clause-events : goal.returns-clause-events
returns-clause-events c = λ image before rounds forgot list are. events_alike image before (c.settled_rounds_stay.ensures.row image) rounds forgot list are
