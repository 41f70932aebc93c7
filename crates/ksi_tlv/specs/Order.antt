-- Elements in a fixed order, read from left to right. The law `whole_or_fault` relates this to the definitions in `Sequence`.
use Rattle.std.specs.Prelude.{◌≡◌, ℕ, ◌==◌, List, [], ◌∷◌, Bool, Result, Ok, Err, if◌then◌else◌}
use Rattle.std.specs.List.{list_any}
use Rattle.ksi_tlv.specs.Walking.{PlacedTlv, Cut, Items}
use Rattle.ksi_tlv.specs.declared.order.fault.OrderFault.{OrderFault}
use Rattle.ksi_tlv.specs.declared.order.fault.OrderFault.TheVariants as faults
use Rattle.ksi_imprint.specs.declared.refused.Refused.{Refused}
use Rattle.ksi_imprint.specs.declared.refused.Refused.TheVariants as refused

-- the next step, if there is no fault so far
infixl 10 ◌>>=◌
abbrev pub ◌>>=◌ : {A B F : Type 0} → Result A F → (A → Result B F) → Result B F
(Ok x) >>= next = next x
(Err fault) >>= next = Err fault

-- The order of elements, by a state that records the elements read: the kinds that may come next, the change by an element
-- of such a kind, whether nothing may follow, whether the sequence may end here, and the names of the faults of order.
pub record Order (S F : Type 0) : Type 0 where
  pub next : S → List ℕ
  pub read : S → PlacedTlv → Result S F
  pub closed : S → Bool
  pub whole : S → Bool
  pub named : OrderFault → F

abbrev pub may_stand : List ℕ → ℕ → Bool
may_stand kinds kind = list_any (λ k. k == kind) kinds

-- one element more, or its fault
unfoldable pub one_more : {S F : Type 0} → Order S F → Result PlacedTlv Cut → S → Result S F
one_more o (Err cut) s = if o.closed s then Err (o.named (faults.Ends cut.place)) else Err (o.named (faults.Tlv cut.place))
one_more o (Ok at) s =
    if o.closed s then Err (o.named (faults.Ends at.place))
    else if may_stand (o.next s) at.element.kind then o.read s at else Err (o.named (faults.Order at.place))

-- the state after all elements, or the first fault
unfoldable pub walked : {S F : Type 0} → Order S F → ℕ → Items → S → Result S F
walked o end [] s = if o.whole s then Ok s else Err (o.named (faults.Ends end))
walked o end (item ∷ items) s = one_more o item s >>= walked o end items

-- the result of a call, unless it ran out of memory
abbrev pub Steps : {S F : Type 0} → Result S F → S → Result (Unit {0}) (Refused F) → Type 0
Steps expected new (Ok u) = expected ≡ Ok new
Steps expected new (Err (refused.Fault fault)) = expected ≡ Err fault
Steps expected new (Err refused.NoMemory) = Unit {0}
