use Rattle.ksi_signature.proofs.Order.{fall_all, equal_parts}
use Rattle.ksi_signature.proofs.laws.chains_in_order.Goals as goal

pub returns-clause-fall : goal.returns-clause-fall
returns-clause-fall c = fall_all

pub returns-clause-equal : goal.returns-clause-equal
returns-clause-equal c = equal_parts
