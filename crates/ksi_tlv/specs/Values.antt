-- The values in the bodies of elements.
use Rattle.std.specs.Prelude.{ℕ, List, Result, Ok, Err}
use Rattle.ksi_tlv.specs.Walking.{PlacedTlv}
use Rattle.ksi_tlv.specs.declared.grammar.fault.ElementFault.{ElementFault}
use Rattle.ksi_tlv.specs.Contents.{number_in, time_in, imprint_in}
use Rattle.ksi_tlv.specs.declared.order.fault.OrderFault.{OrderFault}
use Rattle.ksi_tlv.specs.declared.order.fault.OrderFault.TheVariants as faults

-- the value, or this fault in place of any other
abbrev pub or_fault : {A : Type 0} → OrderFault → Result A ElementFault → Result A OrderFault
or_fault fault (Ok value) = Ok value
or_fault fault (Err other) = Err fault

-- a number has at most 8 bytes
unfoldable pub number_at : PlacedTlv → Result ℕ OrderFault
number_at at = or_fault (faults.Bound at.place) (number_in at)

-- a time is a number below 2^63
unfoldable pub time_at : PlacedTlv → Result ℕ OrderFault
time_at at = or_fault (faults.Bound at.place) (time_in at)

unfoldable pub imprint_at : PlacedTlv → Result (List ℕ) OrderFault
imprint_at at = or_fault (faults.Imprint at.place) (imprint_in at)
