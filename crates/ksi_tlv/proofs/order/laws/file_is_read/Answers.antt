use Rattle.ksi_tlv.proofs.Files.{value_read, fault_read}
use Rattle.ksi_tlv.proofs.order.laws.file_is_read.Goals as goal

pub returns-clause-value : goal.returns-clause-value
returns-clause-value g c f bytes = value_read (record { whole = c.walked_says.ensures.whole; fault = c.walked_says.ensures.fault }) f bytes

pub returns-clause-fault : goal.returns-clause-fault
returns-clause-fault g c f bytes = fault_read (record { whole = c.walked_says.ensures.whole; fault = c.walked_says.ensures.fault }) f bytes
