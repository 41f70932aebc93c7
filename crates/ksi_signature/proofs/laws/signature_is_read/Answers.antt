use Rattle.ksi_signature.proofs.Answered.{signature_read, fault_read}
use Rattle.ksi_signature.proofs.Standing.{elements_of}
use Rattle.ksi_signature.proofs.laws.signature_is_read.Goals as goal

pub returns-clause-signature : goal.returns-clause-signature
returns-clause-signature c = signature_read (record { whole = c.whole_or_fault.ensures.whole; fault = c.whole_or_fault.ensures.fault; found = c.front_by_spelling.ensures.found; spelled = c.front_by_spelling.ensures.spelled })

pub returns-clause-fault : goal.returns-clause-fault
returns-clause-fault c = fault_read (record { whole = c.whole_or_fault.ensures.whole; fault = c.whole_or_fault.ensures.fault; found = c.front_by_spelling.ensures.found; spelled = c.front_by_spelling.ensures.spelled })

pub returns-clause-elements : goal.returns-clause-elements
returns-clause-elements c = elements_of (record { whole = c.whole_or_fault.ensures.whole; fault = c.whole_or_fault.ensures.fault; found = c.front_by_spelling.ensures.found; spelled = c.front_by_spelling.ensures.spelled })
