use Rattle.ksi_laws_progress.proofs.Issuing.{issues_joined}
use Rattle.ksi_laws_progress.proofs.laws.joined_requests_can_be_issued.Goals as goal

pub returns : goal.returns
returns c = λ image plan events is are core steps number asked below joined won. issues_joined c.requests_are_of_plan.ensures image plan is events are core steps number asked below c.one_first_missing.ensures.none joined won
