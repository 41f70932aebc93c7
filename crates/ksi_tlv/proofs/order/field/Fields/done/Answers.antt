use Rattle.std.proofs.Common.{rules}
use Rattle.ksi_tlv.specs.Fields.{done}
use Rattle.ksi_tlv.proofs.order.field.Fields.done.Goals as goal

pub returns-in-Some-Ok : goal.returns-in-Some-Ok
unfolding done
returns-in-Some-Ok c = search rules
