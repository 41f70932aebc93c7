-- Counting as the code does it: one counter for each slot, which stops at 65,535.
use Rattle.std.specs.Prelude.{◌≡◌, ℕ, suc, ◌+◌, min, List, [], ◌∷◌, length, slice_index, slice_set, Option, Some, None, Result, Ok, Err, if◌then◌else◌}
use Rattle.ksi_tlv.specs.Walking.{PlacedTlv}
use Rattle.ksi_tlv.specs.declared.grammar.fault.ElementFault.{ElementFault}
use Rattle.ksi_tlv.specs.declared.grammar.fault.ElementFault.TheVariants as faults
use Rattle.ksi_tlv.specs.declared.grammar.rule.Rule.{Rule}
use Rattle.ksi_tlv.specs.Table.{Verdict, Slot, Table, is_among, count}
use Rattle.ksi_tlv.specs.Containing.{◌>>=◌, is_full, over_fault, or_lack}

-- the rule for a kind, among the slots from number i on
abbrev pub rule_from : ℕ → List Slot → ℕ → Option Rule
rule_from i [] kind = None
rule_from i (slot ∷ slots) kind = if is_among kind slot.kinds then Some (record { slot = i; most = slot.most; over = slot.over }) else rule_from (suc i) slots kind

abbrev pub rule_of : Table → ℕ → Option Rule
rule_of t kind = rule_from 0 t.slots kind

-- the first missing element, by the counters of the slots from number i on
abbrev pub lack_from : ℕ → List Slot → List ℕ → ℕ → Verdict
lack_from i [] seen place = Ok tt
lack_from i (slot ∷ slots) seen place = or_lack slot.lack (slice_index seen i) place (lack_from (suc i) slots seen place)

abbrev pub lack_of : Table → List ℕ → ℕ → Verdict
lack_of t seen place = lack_from 0 t.slots seen place

-- the first of these slots without an element, each with the kind that is then missing
abbrev pub missing_of : List (ℕ × ℕ) → List ℕ → ℕ → Verdict
missing_of [] seen place = Ok tt
missing_of (need ∷ needs) seen place = or_lack (Some (faults.Missing need.1)) (slice_index seen need.0) place (missing_of needs seen place)

abbrev pub counted : List ℕ → ℕ → List ℕ
counted seen slot = slice_set seen slot (min (slice_index seen slot + 1) 65535)

abbrev pub rule_step : Table → List ℕ → PlacedTlv → Option Rule → Result (List ℕ) ElementFault
rule_step t seen at None = if at.element.non_critical then Ok seen else Err (faults.UnknownCritical at.element.kind at.place)
rule_step t seen at (Some rule) =
    if is_full rule.most (slice_index seen rule.slot) then Err (over_fault rule.over at.element.kind at.place)
    else t.content at >>= λ _. Ok (counted seen rule.slot)

-- the counters after an element, or its fault
unfoldable pub step : Table → List ℕ → PlacedTlv → Result (List ℕ) ElementFault
step t seen at =
    if is_among at.element.kind t.refused then Err (faults.RefusedElement at.element.kind at.place)
    else rule_step t seen at (rule_of t at.element.kind)

abbrev pub IsStep : Table → List ℕ → PlacedTlv → List ℕ → Verdict → Type 0
IsStep t old at new (Ok u) = step t old at ≡ Ok new
IsStep t old at new (Err fault) = step t old at ≡ Err fault

-- the counters of the slots from number i on are the numbers of elements read
abbrev pub CountFrom : ℕ → List Slot → List ℕ → List PlacedTlv → Type 0
CountFrom i [] seen es = Unit {0}
CountFrom i (slot ∷ slots) seen es = (slice_index seen i ≡ min (count slot.kinds es) 65535) × CountFrom (suc i) slots seen es

pub record IsCounted (t : Table) (seen : List ℕ) (es : List PlacedTlv) : Type 0 where
  pub long : length seen ≡ 8
  pub counts : CountFrom 0 t.slots seen es
