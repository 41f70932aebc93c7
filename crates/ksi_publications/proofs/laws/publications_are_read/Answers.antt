use Rattle.ksi_publications.proofs.Answered.{pairs_read, fault_read}
use Rattle.ksi_publications.proofs.laws.publications_are_read.Goals as goal

pub returns-clause-pairs : goal.returns-clause-pairs
returns-clause-pairs c = pairs_read (record { whole = c.whole_or_fault.ensures.whole; fault = c.whole_or_fault.ensures.fault }) c.faults_by_table.ensures

pub returns-clause-fault : goal.returns-clause-fault
returns-clause-fault c = fault_read (record { whole = c.whole_or_fault.ensures.whole; fault = c.whole_or_fault.ensures.fault }) c.faults_by_table.ensures
