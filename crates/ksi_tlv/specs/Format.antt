-- Files of elements in a fixed order: which bytes encode which value, and the first fault of all other bytes.
use Rattle.std.specs.Prelude.{◌≡◌, ℕ, ◌+◌, ◌⊎◌, List, ◌++◌, length, Result, Ok, Err}
use Rattle.ksi_tlv.specs.Walking.{PlacedTlv, Items, elements}
use Rattle.ksi_tlv.specs.declared.order.fault.OrderFault.{OrderFault}
use Rattle.ksi_tlv.specs.Order.{Order}
use Rattle.ksi_tlv.specs.Sequence.{IsWhole, IsFirstFault, IsWanting}

-- A format: the magic that a file begins with, the fault of bytes that begin otherwise, the order of the elements after
-- the magic, the state before the first of them, and the value of the state after the last.
pub record Format (S F A : Type 0) : Type 0 where
  pub magic : List ℕ
  pub other : F
  pub order : Order S F
  pub start : S
  pub value : S → A

-- the elements after the magic, and where they end
abbrev pub behind : {S F A : Type 0} → Format S F A → List ℕ → Items
behind f rest = elements (length f.magic) rest

abbrev pub end_of : {S F A : Type 0} → Format S F A → List ℕ → ℕ
end_of f rest = length f.magic + length rest

-- after the magic come whole elements in their order, and they encode this value
pub record IsFile {S F A : Type 0} (f : Format S F A) (bytes : List ℕ) (value : A) : Type 0 where
  pub rest : List ℕ
  pub begins : bytes ≡ f.magic ++ rest
  pub said : S
  pub whole : IsWhole f.order (behind f rest) f.start said
  pub has : value ≡ f.value said

-- the bytes do not begin with the magic
abbrev pub IsOther : {S F A : Type 0} → Format S F A → List ℕ → Type 0
IsOther f bytes = (rest : List ℕ) → bytes ≡ f.magic ++ rest → ⊥

pub record IsOtherFile {S F A : Type 0} (f : Format S F A) (bytes : List ℕ) (fault : F) : Type 0 where
  pub begins : IsOther f bytes
  pub named : fault ≡ f.other

-- the first fault of the elements after the magic
pub record IsFaultInside {S F A : Type 0} (f : Format S F A) (bytes : List ℕ) (fault : F) : Type 0 where
  pub rest : List ℕ
  pub begins : bytes ≡ f.magic ++ rest
  pub first : IsFirstFault f.order (end_of f rest) (behind f rest) f.start fault

abbrev pub IsFileFault : {S F A : Type 0} → Format S F A → List ℕ → F → Type 0
IsFileFault f bytes fault = IsOtherFile f bytes fault ⊎ IsFaultInside f bytes fault

-- the call ran out of memory at an element for which `wants` holds, and there is no fault up to it
pub record IsWantingInside {S F A : Type 0} (f : Format S F A) (wants : S → PlacedTlv → Type 0) (bytes : List ℕ) : Type 0 where
  pub rest : List ℕ
  pub begins : bytes ≡ f.magic ++ rest
  pub inside : IsWanting f.order wants (behind f rest) f.start

-- a value, or a fault of order by its name in a format
abbrev pub or_named : {A F : Type 0} → (OrderFault → F) → Result A OrderFault → Result A F
or_named named (Ok value) = Ok value
or_named named (Err fault) = Err (named fault)
