use Rattle.ksi_tlv.proofs.Both.{walked_whole, whole_walked, walked_fault, fault_walked}
use Rattle.ksi_tlv.proofs.order.laws.walked_says.Goals as goal

pub returns-clause-whole : goal.returns-clause-whole
returns-clause-whole g c = λ o end items s t. (walked_whole o end items s t, whole_walked o end items s t)

pub returns-clause-fault : goal.returns-clause-fault
returns-clause-fault g c = λ o end items s fault. (walked_fault o end items s fault, fault_walked o end items s fault)
