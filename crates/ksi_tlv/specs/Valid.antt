-- Which elements a container may have, whatever the order of reading, and its first fault.
use Rattle.std.specs.Prelude.{◌≡◌, ℕ, ◌<◌, ◌≤◌, true, false, List, [], ◌∷◌, ◌++◌, Option, Some, None, Ok, Err}
use Rattle.std.specs.List.{AllByRecursion}
use Rattle.ksi_tlv.specs.Walking.{PlacedTlv, Items, elements, items_of}
use Rattle.ksi_tlv.specs.declared.grammar.fault.ElementFault.{ElementFault}
use Rattle.ksi_tlv.specs.declared.grammar.fault.ElementFault.TheVariants as faults
use Rattle.ksi_tlv.specs.Table.{Slot, Table, is_among, slot_of, count}
use Rattle.ksi_tlv.specs.Containing.{element_verdict, end_verdict}

-- ---- allowed elements

abbrev pub MayStandAs : Table → PlacedTlv → Option Slot → Type 0
MayStandAs t at None = at.element.non_critical ≡ true
MayStandAs t at (Some slot) = t.content at ≡ Ok tt

-- An element is valid by itself: its kind is not refused, and either it is known and its content has no fault, or it is
-- unknown and non-critical.
pub record MayStand (t : Table) (at : PlacedTlv) : Type 0 where
  pub named : is_among at.element.kind t.refused ≡ false
  pub fits : MayStandAs t at (slot_of t.slots at.element.kind)

abbrev pub AtMost : Option ℕ → ℕ → Type 0
AtMost None n = Unit {0}
AtMost (Some most) n = n ≤ most

abbrev pub AtLeast : Option (ℕ → ElementFault) → ℕ → Type 0
AtLeast None n = Unit {0}
AtLeast (Some fault) n = 0 < n

-- no slot has more elements than its limit
abbrev pub AreWithin : List Slot → List PlacedTlv → Type 0
AreWithin slots es = AllByRecursion (λ slot. AtMost slot.most (count slot.kinds es)) slots

-- each slot that must have an element has one
abbrev pub AreEnough : List Slot → List PlacedTlv → Type 0
AreEnough slots es = AllByRecursion (λ slot. AtLeast slot.lack (count slot.kinds es)) slots

-- The body at a place is a container of these elements: it consists of elements, each is valid by itself, no slot has too
-- many, and none is missing.
pub record IsContainer (t : Table) (inside : ℕ) (body : List ℕ) (es : List PlacedTlv) : Type 0 where
  pub split : elements inside body ≡ items_of es
  pub each : AllByRecursion (MayStand t) es
  pub within : AreWithin t.slots es
  pub enough : AreEnough t.slots es

abbrev pub IsWhole : Table → ℕ → List ℕ → Type 0
IsWhole t inside body = (es : List PlacedTlv) × IsContainer t inside body es

-- ---- the first fault in reading order

-- a fault after elements: at the end, at the next element, or at one that is cut off
abbrev pub StandsBehind : Table → ℕ → ElementFault → List PlacedTlv → Items → Type 0
StandsBehind t place fault before [] = end_verdict t.slots before place ≡ Err fault
StandsBehind t place fault before (Ok at ∷ others) = element_verdict t before at ≡ Err fault
StandsBehind t place fault before (Err cut ∷ others) = fault ≡ faults.Tlv cut.place

-- The fault is in the body of a container at a place, and there is none before it.
pub record IsFirstFault (t : Table) (place inside : ℕ) (body : List ℕ) (fault : ElementFault) : Type 0 where
  pub before : List PlacedTlv
  pub rest : Items
  pub split : elements inside body ≡ items_of before ++ rest
  pub each : AllByRecursion (MayStand t) before
  pub within : AreWithin t.slots before
  pub stands : StandsBehind t place fault before rest
