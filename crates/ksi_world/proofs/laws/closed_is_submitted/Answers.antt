use Rattle.ksi_world.proofs.Submitting.{happens_submitted, after_submitted}
use Rattle.ksi_world.proofs.laws.closed_is_submitted.Goals as goal

pub returns-clause-event : goal.returns-clause-event
returns-clause-event c = λ image plan w e are. happens_submitted image plan w e are

pub returns-clause-history : goal.returns-clause-history
returns-clause-history c = λ image plan events. after_submitted image plan events
