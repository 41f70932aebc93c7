use Rattle.ksi_publications.proofs.Files.{one_of_both, not_both, one_list, one_fault}
use Rattle.ksi_publications.proofs.laws.file_or_fault.Goals as goal

pub returns-clause-one : goal.returns-clause-one
returns-clause-one c = one_of_both (record { whole = c.whole_or_fault.ensures.whole; fault = c.whole_or_fault.ensures.fault }) c.faults_by_table.ensures

pub returns-clause-not_both : goal.returns-clause-not_both
returns-clause-not_both c = not_both (record { whole = c.whole_or_fault.ensures.whole; fault = c.whole_or_fault.ensures.fault })

pub returns-clause-one_list : goal.returns-clause-one_list
returns-clause-one_list c = one_list

pub returns-clause-one_fault : goal.returns-clause-one_fault
returns-clause-one_fault c = one_fault (record { whole = c.whole_or_fault.ensures.whole; fault = c.whole_or_fault.ensures.fault })
