-- A container read from left to right. The law `whole_or_fault` relates this to the definitions in `Valid`.
use Rattle.std.specs.Prelude.{ℕ, ◌==◌, nat_le, Bool, false, List, [], ◌∷◌, Option, Some, None, Result, Ok, Err, if◌then◌else◌}
use Rattle.ksi_tlv.specs.Walking.{PlacedTlv, Items, elements}
use Rattle.ksi_tlv.specs.declared.grammar.fault.ElementFault.{ElementFault}
use Rattle.ksi_tlv.specs.declared.grammar.fault.ElementFault.TheVariants as faults
use Rattle.ksi_tlv.specs.declared.grammar.rule.Over.{Over}
use Rattle.ksi_tlv.specs.declared.grammar.rule.Over.TheVariants as overs
use Rattle.ksi_tlv.specs.Table.{Verdict, Slot, Table, is_among, slot_of, count}

-- the next step, if there is no fault so far
infixl 10 ◌>>=◌
abbrev pub ◌>>=◌ : {A B : Type 0} → Result A ElementFault → (A → Result B ElementFault) → Result B ElementFault
(Ok x) >>= next = next x
(Err fault) >>= next = Err fault

-- the limit is reached
abbrev pub is_full : Option ℕ → ℕ → Bool
is_full None n = false
is_full (Some most) n = nat_le most n

-- the fault of an element past the limit
abbrev pub over_fault : Over → ℕ → ℕ → ElementFault
over_fault overs.Repeated kind place = faults.Repeated kind place
over_fault overs.Links kind place = faults.Links place
over_fault overs.Chains kind place = faults.Chains place
over_fault overs.Sibling kind place = faults.Sibling place

abbrev pub slot_verdict : Table → List PlacedTlv → PlacedTlv → Option Slot → Verdict
slot_verdict t before at None = if at.element.non_critical then Ok tt else Err (faults.UnknownCritical at.element.kind at.place)
slot_verdict t before at (Some slot) =
    if is_full slot.most (count slot.kinds before) then Err (over_fault slot.over at.element.kind at.place) else t.content at

-- The fault of an element that follows others. The checks run in this order: its kind is refused, it is unknown and
-- critical, it exceeds a limit, its content has a fault.
unfoldable pub element_verdict : Table → List PlacedTlv → PlacedTlv → Verdict
element_verdict t before at =
    if is_among at.element.kind t.refused then Err (faults.RefusedElement at.element.kind at.place)
    else slot_verdict t before at (slot_of t.slots at.element.kind)

abbrev pub or_lack : Option (ℕ → ElementFault) → ℕ → ℕ → Verdict → Verdict
or_lack None n place others = others
or_lack (Some fault) n place others = if n == 0 then Err (fault place) else others

-- the fault at the end of a container at a place: the first slot that requires an element and has none
abbrev pub end_verdict : List Slot → List PlacedTlv → ℕ → Verdict
end_verdict [] es place = Ok tt
end_verdict (slot ∷ slots) es place = or_lack slot.lack (count slot.kinds es) place (end_verdict slots es place)

-- the fault of the items that follow elements; `before` has the latest element first
unfoldable pub rest_verdict : Table → ℕ → List PlacedTlv → Items → Verdict
rest_verdict t place before [] = end_verdict t.slots before place
rest_verdict t place before (Err cut ∷ items) = Err (faults.Tlv cut.place)
rest_verdict t place before (Ok at ∷ items) = element_verdict t before at >>= λ _. rest_verdict t place (at ∷ before) items

-- the fault of a container at a place, whose body begins at `inside`
unfoldable pub container_verdict : Table → ℕ → ℕ → List ℕ → Verdict
container_verdict t place inside body = rest_verdict t place [] (elements inside body)

-- the fault of an element read as a container
abbrev pub inner_verdict : Table → PlacedTlv → Verdict
inner_verdict t at = container_verdict t at.place at.inside at.element.body
