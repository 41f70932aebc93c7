use Rattle.ksi_signature.proofs.Whole.{Laws, one_of_both, not_both, one_signature, one_fault, signature_if_ok, ok_if_signature, fault_if_err, err_if_fault}
use Rattle.ksi_signature.proofs.laws.signature_or_fault.Goals as goal

pub returns-clause-one : goal.returns-clause-one
returns-clause-one c = one_of_both (record { whole = c.whole_or_fault.ensures.whole; fault = c.whole_or_fault.ensures.fault; found = c.front_by_spelling.ensures.found; spelled = c.front_by_spelling.ensures.spelled })

pub returns-clause-not_both : goal.returns-clause-not_both
returns-clause-not_both c = not_both (record { whole = c.whole_or_fault.ensures.whole; fault = c.whole_or_fault.ensures.fault; found = c.front_by_spelling.ensures.found; spelled = c.front_by_spelling.ensures.spelled })

pub returns-clause-one_signature : goal.returns-clause-one_signature
returns-clause-one_signature c = one_signature (record { whole = c.whole_or_fault.ensures.whole; fault = c.whole_or_fault.ensures.fault; found = c.front_by_spelling.ensures.found; spelled = c.front_by_spelling.ensures.spelled })

pub returns-clause-one_fault : goal.returns-clause-one_fault
returns-clause-one_fault c = one_fault (record { whole = c.whole_or_fault.ensures.whole; fault = c.whole_or_fault.ensures.fault; found = c.front_by_spelling.ensures.found; spelled = c.front_by_spelling.ensures.spelled })

pub returns-clause-whole : goal.returns-clause-whole
returns-clause-whole c = λ bytes fits.
    let laws : Laws = record { whole = c.whole_or_fault.ensures.whole; fault = c.whole_or_fault.ensures.fault; found = c.front_by_spelling.ensures.found; spelled = c.front_by_spelling.ensures.spelled } in
    (signature_if_ok laws bytes fits, λ s. ok_if_signature laws bytes s.0 s.1)

pub returns-clause-fault : goal.returns-clause-fault
returns-clause-fault c = λ bytes fault fits.
    let laws : Laws = record { whole = c.whole_or_fault.ensures.whole; fault = c.whole_or_fault.ensures.fault; found = c.front_by_spelling.ensures.found; spelled = c.front_by_spelling.ensures.spelled } in
    (fault_if_err laws bytes fault fits, err_if_fault laws bytes fault fits)
