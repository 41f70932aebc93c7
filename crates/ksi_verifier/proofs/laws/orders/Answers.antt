use Rattle.ksi_verifier.proofs.Chained.{all_order}
use Rattle.ksi_verifier.proofs.Orders.{all_order_fail}
use Rattle.ksi_verifier.proofs.laws.orders.Goals as goal

pub returns-clause-nested : goal.returns-clause-nested
returns-clause-nested c = all_order

pub returns-clause-differ : goal.returns-clause-differ
returns-clause-differ c = all_order_fail
