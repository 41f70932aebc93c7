use Rattle.std.proofs.Common.{rules}
use Rattle.ksi_tlv.specs.Fields.{field}
use Rattle.ksi_tlv.proofs.order.field.Fields.next.Goals as goal

pub returns-then-at-kind : goal.returns-then-at-kind
unfolding field
returns-then-at-kind c = search rules
