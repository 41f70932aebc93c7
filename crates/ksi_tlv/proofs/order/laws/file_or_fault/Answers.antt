use Rattle.ksi_tlv.proofs.Files.{one, not_both, one_value, one_fault}
use Rattle.ksi_tlv.proofs.order.laws.file_or_fault.Goals as goal

pub returns-clause-one : goal.returns-clause-one
returns-clause-one g c f bytes = one (record { whole = c.walked_says.ensures.whole; fault = c.walked_says.ensures.fault }) f bytes

pub returns-clause-not_both : goal.returns-clause-not_both
returns-clause-not_both g c f bytes = not_both (record { whole = c.walked_says.ensures.whole; fault = c.walked_says.ensures.fault }) f bytes

pub returns-clause-one_value : goal.returns-clause-one_value
returns-clause-one_value g c f bytes = one_value (record { whole = c.walked_says.ensures.whole; fault = c.walked_says.ensures.fault }) f bytes

pub returns-clause-one_fault : goal.returns-clause-one_fault
returns-clause-one_fault g c f bytes = one_fault (record { whole = c.walked_says.ensures.whole; fault = c.walked_says.ensures.fault }) f bytes
