-- The unread rest of an element, as the code keeps it.
use Rattle.std.specs.Prelude.{◌≡◌, ℕ, Result, Ok, Err}
use Rattle.ksi_tlv.specs.Views.{view_placed, rest}
use Rattle.ksi_tlv.specs.declared.walk.Placed as code
use Rattle.ksi_tlv.specs.declared.order.field.Fields.{Fields}
use Rattle.ksi_tlv.specs.declared.order.fault.OrderFault.{OrderFault}
use Rattle.ksi_tlv.specs.Fields.{Inside, field}

abbrev pub left : Fields → Inside
left f = record { end = f.end; items = rest f.elements }

-- the next element was of this kind, or why it was not
abbrev pub IsField : ℕ → Inside → Inside → Result code.Placed OrderFault → Type 0
IsField kind old new (Ok at) = field kind old ≡ Ok (view_placed at, new)
IsField kind old new (Err fault) = field kind old ≡ Err fault
