use Rattle.ksi_logblock.proofs.Ordered.{in_order}
use Rattle.ksi_logblock.proofs.laws.file_is_in_order.Goals as goal

pub returns : goal.returns
returns c = in_order
