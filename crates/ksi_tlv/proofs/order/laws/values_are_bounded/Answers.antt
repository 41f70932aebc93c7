use Rattle.ksi_tlv.proofs.Bounded.{early, imprint}
use Rattle.ksi_tlv.proofs.order.laws.values_are_bounded.Goals as goal

pub returns-clause-early : goal.returns-clause-early
returns-clause-early c = early

pub returns-clause-imprint : goal.returns-clause-imprint
returns-clause-imprint c = imprint
