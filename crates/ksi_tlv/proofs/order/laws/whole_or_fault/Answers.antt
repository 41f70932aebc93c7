use Rattle.ksi_tlv.proofs.Both.{one, not_both, one_state, one_fault}
use Rattle.ksi_tlv.proofs.order.laws.whole_or_fault.Goals as goal

pub returns-clause-one : goal.returns-clause-one
returns-clause-one g c = one

pub returns-clause-not_both : goal.returns-clause-not_both
returns-clause-not_both g c = not_both

pub returns-clause-one_state : goal.returns-clause-one_state
returns-clause-one_state g c = one_state

pub returns-clause-one_fault : goal.returns-clause-one_fault
returns-clause-one_fault g c = one_fault
