-- What it means that elements are in order, and which fault is the first.
use Rattle.std.specs.Prelude.{◌≡◌, ℕ, true, false, List, [], ◌∷◌, ◌++◌, Result, Ok, Err}
use Rattle.ksi_tlv.specs.Walking.{PlacedTlv, Cut, Items, items_of}
use Rattle.ksi_tlv.specs.Order.{Order, one_more, may_stand}
use Rattle.ksi_tlv.specs.declared.order.fault.OrderFault.TheVariants as faults
use Rattle.ksi_imprint.specs.declared.refused.Refused.{Refused}
use Rattle.ksi_imprint.specs.declared.refused.Refused.TheVariants as refused

-- the elements, each of a kind that may come there, lead from one state to another
abbrev pub Leads : {S F : Type 0} → Order S F → S → List PlacedTlv → S → Type 0
Leads o s [] t = s ≡ t
Leads {S} o s (at ∷ es) t = (o.closed s ≡ false) × (may_stand (o.next s) at.element.kind ≡ true) × ((u : S) × (o.read s at ≡ Ok u) × Leads o u es t)

-- whole elements in their order, which may end there, lead from one state to another
pub record IsWhole {S F : Type 0} (o : Order S F) (items : Items) (s t : S) : Type 0 where
  pub es : List PlacedTlv
  pub split : items ≡ items_of es
  pub leads : Leads o s es t
  pub ends : o.whole t ≡ true

-- a fault at the next element, or at the end
abbrev pub StandsAt : {S F : Type 0} → Order S F → ℕ → F → S → Items → Type 0
StandsAt o end fault s [] = (o.whole s ≡ false) × (fault ≡ o.named (faults.Ends end))
StandsAt o end fault s (item ∷ items) = one_more o item s ≡ Err fault

-- a fault, and none before it
pub record IsFirstFault {S F : Type 0} (o : Order S F) (end : ℕ) (items : Items) (s : S) (fault : F) : Type 0 where
  pub before : List PlacedTlv
  pub rest : Items
  pub split : items ≡ items_of before ++ rest
  pub said : S
  pub leads : Leads o s before said
  pub stands : StandsAt o end fault said rest

-- the result of a walk, unless it ran out of memory
abbrev pub Tells : {S F : Type 0} → Order S F → ℕ → Items → S → S → Result (Unit {0}) (Refused F) → Type 0
Tells o end items s t (Ok u) = IsWhole o items s t
Tells o end items s t (Err (refused.Fault fault)) = IsFirstFault o end items s fault
Tells o end items s t (Err refused.NoMemory) = Unit {0}

-- the call ran out of memory at the next element, which may come there
abbrev pub WantsAt : {S F : Type 0} → Order S F → (S → PlacedTlv → Type 0) → Result PlacedTlv Cut → S → Type 0
WantsAt o wants (Err cut) s = ⊥
WantsAt o wants (Ok at) s = (o.closed s ≡ false) × (may_stand (o.next s) at.element.kind ≡ true) × wants s at

-- the call ran out of memory at an element that may come there, and there is no fault before it; `wants` adds further facts
-- about such an element
pub record IsWanting {S F : Type 0} (o : Order S F) (wants : S → PlacedTlv → Type 0) (items : Items) (s : S) : Type 0 where
  pub before : List PlacedTlv
  pub at : PlacedTlv
  pub rest : Items
  pub split : items ≡ items_of before ++ Ok at ∷ rest
  pub said : S
  pub leads : Leads o s before said
  pub more : o.closed said ≡ false
  pub kind : may_stand (o.next said) at.element.kind ≡ true
  pub known : wants said at
