-- The table of a container: which elements it may have.
use Rattle.std.specs.Prelude.{ℕ, ◌+◌, ◌==◌, ◌||◌, ◌&&◌, not, nat_le, Bool, true, false, List, [], ◌∷◌, length, Option, Some, None, Result, if◌then◌else◌}
use Rattle.ksi_tlv.specs.Walking.{PlacedTlv}
use Rattle.ksi_tlv.specs.declared.grammar.fault.ElementFault.{ElementFault}
use Rattle.ksi_tlv.specs.declared.grammar.fault.ElementFault.TheVariants as faults
use Rattle.ksi_tlv.specs.declared.grammar.rule.Over.{Over}
use Rattle.ksi_tlv.specs.declared.grammar.rule.Over.TheVariants as overs

-- no fault, or this one
abbrev pub Verdict : Type 0
Verdict = Result (Unit {0}) ElementFault

-- Kinds that are counted together: the limit on the number of their elements, if there is one; the fault of an element
-- past it; and, if one is required, the fault of a container at a place that has none.
pub record Slot : Type 0 where
  pub kinds : List ℕ
  pub most : Option ℕ
  pub over : Over
  pub lack : Option (ℕ → ElementFault)

-- A container's known kinds by slots, the kinds that are refused by name, and the fault in the content of a known
-- element.
pub record Table : Type 0 where
  pub slots : List Slot
  pub refused : List ℕ
  pub content : PlacedTlv → Verdict

-- ---- words of the tables

abbrev pub exactly_once : ℕ → Slot
exactly_once kind = record { kinds = kind ∷ []; most = Some 1; over = overs.Repeated; lack = Some (faults.Missing kind) }

abbrev pub at_most_once : ℕ → Slot
at_most_once kind = record { kinds = kind ∷ []; most = Some 1; over = overs.Repeated; lack = None }

abbrev pub one_or_more : ℕ → Slot
one_or_more kind = record { kinds = kind ∷ []; most = None; over = overs.Repeated; lack = Some (faults.Missing kind) }

abbrev pub any_number : ℕ → Slot
any_number kind = record { kinds = kind ∷ []; most = None; over = overs.Repeated; lack = None }

-- ---- looking up

abbrev pub is_among : ℕ → List ℕ → Bool
is_among kind [] = false
is_among kind (other ∷ kinds) = kind == other || is_among kind kinds

-- the slot of a kind
abbrev pub slot_of : List Slot → ℕ → Option Slot
slot_of [] kind = None
slot_of (slot ∷ slots) kind = if is_among kind slot.kinds then Some slot else slot_of slots kind

-- how many of the elements are of these kinds
abbrev pub count : List ℕ → List PlacedTlv → ℕ
count kinds [] = 0
count kinds (at ∷ es) = (if is_among at.element.kind kinds then 1 else 0) + count kinds es

-- ---- what every table is: at most 8 slots, no limit above 65,535, and no kind in two slots

abbrev pub is_known : List Slot → ℕ → Bool
is_known [] kind = false
is_known (slot ∷ slots) kind = is_among kind slot.kinds || is_known slots kind

abbrev pub none_known : List Slot → List ℕ → Bool
none_known slots [] = true
none_known slots (kind ∷ kinds) = not (is_known slots kind) && none_known slots kinds

abbrev pub limit_fits : Option ℕ → Bool
limit_fits None = true
limit_fits (Some most) = nat_le most 65535

abbrev pub slots_fit : List Slot → Bool
slots_fit [] = true
slots_fit (slot ∷ slots) = limit_fits slot.most && none_known slots slot.kinds && slots_fit slots

abbrev pub is_table : Table → Bool
is_table t = nat_le (length t.slots) 8 && slots_fit t.slots
