use Rattle.ksi_schedule.proofs.Both.{one_of_two, never_both, one_history, one_fault}
use Rattle.ksi_schedule.proofs.laws.schedule_or_fault.Goals as goal

pub returns-clause-one : goal.returns-clause-one
returns-clause-one c = one_of_two

pub returns-clause-not_both : goal.returns-clause-not_both
returns-clause-not_both c = never_both

pub returns-clause-one_schedule : goal.returns-clause-one_schedule
returns-clause-one_schedule c = one_history

pub returns-clause-one_fault : goal.returns-clause-one_fault
returns-clause-one_fault c = one_fault
