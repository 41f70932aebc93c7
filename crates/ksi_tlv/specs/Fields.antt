-- The elements inside an element, in a fixed order.
use Rattle.std.specs.Prelude.{ℕ, ◌+◌, ◌==◌, [], ◌∷◌, length, Result, Ok, Err, if◌then◌else◌}
use Rattle.ksi_tlv.specs.Walking.{PlacedTlv, Items, elements}
use Rattle.ksi_tlv.specs.declared.order.fault.OrderFault.{OrderFault}
use Rattle.ksi_tlv.specs.declared.order.fault.OrderFault.TheVariants as faults

-- the unread rest of an element, and where it ends
pub record Inside : Type 0 where
  pub end : ℕ
  pub items : Items

abbrev pub inside : PlacedTlv → Inside
inside at = record { end = at.inside + length at.element.body; items = elements at.inside at.element.body }

abbrev pub of_kind : ℕ → ℕ → Items → PlacedTlv → Result (PlacedTlv × Inside) OrderFault
of_kind kind end items at = if at.element.kind == kind then Ok (at, record { end = end; items = items }) else Err (faults.Order at.place)

abbrev pub next_field : ℕ → ℕ → Items → Result (PlacedTlv × Inside) OrderFault
next_field kind end [] = Err (faults.Ends end)
next_field kind end (Err cut ∷ items) = Err (faults.Tlv cut.place)
next_field kind end (Ok at ∷ items) = of_kind kind end items at

-- the next element, which must be of this kind, and the rest after it
unfoldable pub field : ℕ → Inside → Result (PlacedTlv × Inside) OrderFault
field kind i = next_field kind i.end i.items

abbrev pub none_left : Items → Result (Unit {0}) OrderFault
none_left [] = Ok tt
none_left (Err cut ∷ items) = Err (faults.Tlv cut.place)
none_left (Ok at ∷ items) = Err (faults.Order at.place)

-- nothing may follow the last element
unfoldable pub done : Inside → Result (Unit {0}) OrderFault
done i = none_left i.items
