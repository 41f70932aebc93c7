use Rattle.ksi_laws_progress.proofs.Issuing.{joins}
use Rattle.ksi_laws_progress.proofs.laws.waiting_requests_can_be_joined.Goals as goal

pub returns : goal.returns
returns c = λ image plan events is are core steps number asked below waits. joins (record { event = c.seconds_are_kept.ensures.event; history = c.seconds_are_kept.ensures.history }) (record { event = c.closed_is_submitted.ensures.event; history = c.closed_is_submitted.ensures.history }) c.requests_are_of_plan.ensures image plan is events are core steps number asked below waits
