use Rattle.ksi_laws_progress.proofs.Examples.{schedule_is, waits_is, undecided_is}
use Rattle.ksi_laws_progress.proofs.laws.a_request_waits.Goals as goal

pub returns-clause-schedule : goal.returns-clause-schedule
returns-clause-schedule c = λ imprint. schedule_is imprint

pub returns-clause-waits : goal.returns-clause-waits
returns-clause-waits c = λ image imprint. waits_is image imprint

pub returns-clause-undecided : goal.returns-clause-undecided
returns-clause-undecided c = λ image imprint. undecided_is image imprint
