use Rattle.ksi_schedule.proofs.Both.{spelled_read, read_spelled, fault_read, read_faulty}
use Rattle.ksi_schedule.proofs.laws.schedule_is_read.Goals as goal

pub returns-clause-schedule : goal.returns-clause-schedule
returns-clause-schedule c = λ text h. (read_spelled text h, spelled_read text h)

pub returns-clause-fault : goal.returns-clause-fault
returns-clause-fault c = λ text fault n. (read_faulty text fault n, fault_read text fault n)
