-- A container has no other fault than those that its table names.
use Rattle.std.proofs.Common.{◌≡◌, ◌⊎◌, ℕ, Bool, true, false, cond, eqb, List, [], ◌∷◌, Option, Some, None, Ok, Err, refl, subst, inl, inr}
use Rattle.std.specs.List.{AllByRecursion}
use Rattle.ksi_tlv.specs.Walking.{PlacedTlv, Items, elements}
use Rattle.ksi_tlv.specs.declared.grammar.fault.ElementFault.{ElementFault}
use Rattle.ksi_tlv.specs.declared.grammar.fault.ElementFault.TheVariants as faults
use Rattle.ksi_tlv.specs.Table.{Verdict, Slot, Table, is_among, slot_of, count}
use Rattle.ksi_tlv.specs.Containing.{◌>>=◌, is_full, over_fault, or_lack, slot_verdict, element_verdict, end_verdict, rest_verdict, container_verdict}
use Rattle.ksi_tlv.specs.Faults.{LackIs, PassesFaults}

abbrev passed : Verdict
passed = Ok tt

first_err : (b : Bool) (d : ElementFault) (v : Verdict) (f : ElementFault) → cond b (Err d) v ≡ Err f → (d ≡ f) ⊎ (v ≡ Err f)
first_err true d v f e = inl cc
first_err false d v f e = inr e

last_err : (b : Bool) (d f : ElementFault) → cond b passed (Err d) ≡ Err f → d ≡ f
last_err true d f e = absurd cc
last_err false d f e = cc

over_at : (b : Bool) (test : ElementFault → Bool) (slot found : Slot) (o : Option Slot) (kind place : ℕ) → ((kind place : ℕ) → test (over_fault slot.over kind place) ≡ true) → (o ≡ Some found → test (over_fault found.over kind place) ≡ true)
    → cond b (Some slot) o ≡ Some found → test (over_fault found.over kind place) ≡ true
over_at true test slot found o kind place here rest e = let same : slot ≡ found = cc in subst (λ (slot : Slot). test (over_fault slot.over kind place) ≡ true) same (here kind place)
over_at false test slot found o kind place here rest e = rest e

over_named : (test : ElementFault → Bool) (slots : List Slot) (of kind place : ℕ) (found : Slot) → AllByRecursion (λ slot. (kind place : ℕ) → test (over_fault slot.over kind place) ≡ true) slots → slot_of slots of ≡ Some found → test (over_fault found.over kind place) ≡ true
over_named test [] of kind place found all e = absurd cc
over_named test (slot ∷ slots) of kind place found all e =
    over_at (is_among of slot.kinds) test slot found (slot_of slots of) kind place all.0 (over_named test slots of kind place found all.1) e

slot_named : (test : ElementFault → Bool) (t : Table) (before : List PlacedTlv) (at : PlacedTlv) (o : Option Slot) (f : ElementFault) → PassesFaults t test → slot_of t.slots at.element.kind ≡ o → slot_verdict t before at o ≡ Err f → test f ≡ true
slot_named test t before at None f names is e =
    subst (λ (f : ElementFault). test f ≡ true) (last_err at.element.non_critical (faults.UnknownCritical at.element.kind at.place) f e) (names.unknown at.element.kind at.place)
slot_named test t before at (Some slot) f names is e =
    elim (first_err (is_full slot.most (count slot.kinds before)) (over_fault slot.over at.element.kind at.place) (t.content at) f e) [
      | inl same ↦ subst (λ (f : ElementFault). test f ≡ true) same (over_named test t.slots at.element.kind at.element.kind at.place slot names.over is)
      | inr inside ↦ names.content at f inside
    ]

element_named : (test : ElementFault → Bool) (t : Table) (before : List PlacedTlv) (at : PlacedTlv) (f : ElementFault) → PassesFaults t test → element_verdict t before at ≡ Err f → test f ≡ true
unfolding element_verdict
element_named test t before at f names e =
    elim (first_err (is_among at.element.kind t.refused) (faults.RefusedElement at.element.kind at.place) (slot_verdict t before at (slot_of t.slots at.element.kind)) f e) [
      | inl same ↦ subst (λ (f : ElementFault). test f ≡ true) same (names.refused at.element.kind at.place)
      | inr known ↦ slot_named test t before at (slot_of t.slots at.element.kind) f names refl known
    ]

lack_named : (test : ElementFault → Bool) (o : Option (ℕ → ElementFault)) (n place : ℕ) (v : Verdict) (f : ElementFault) → LackIs test o → (v ≡ Err f → test f ≡ true) → or_lack o n place v ≡ Err f → test f ≡ true
lack_named test None n place v f here rest e = rest e
lack_named test (Some fault) n place v f here rest e =
    elim (first_err (eqb n 0) (fault place) v f e) [
      | inl same ↦ subst (λ (f : ElementFault). test f ≡ true) same (here place)
      | inr later ↦ rest later
    ]

end_named : (test : ElementFault → Bool) (slots : List Slot) (es : List PlacedTlv) (place : ℕ) (f : ElementFault) → AllByRecursion (λ slot. LackIs test slot.lack) slots → end_verdict slots es place ≡ Err f → test f ≡ true
end_named test [] es place f all e = absurd cc
end_named test (slot ∷ slots) es place f all e = lack_named test slot.lack (count slot.kinds es) place (end_verdict slots es place) f all.0 (end_named test slots es place f all.1) e

next_err : (v w : Verdict) (f : ElementFault) → (v >>= λ _. w) ≡ Err f → (v ≡ Err f) ⊎ (w ≡ Err f)
next_err (Ok u) w f e = inr e
next_err (Err d) w f e = inl e

rest_named : (test : ElementFault → Bool) (t : Table) (place : ℕ) (before : List PlacedTlv) (items : Items) (f : ElementFault) → PassesFaults t test → rest_verdict t place before items ≡ Err f → test f ≡ true
unfolding rest_verdict
rest_named test t place before [] f names e = end_named test t.slots before place f names.lack e
rest_named test t place before (Err cut ∷ items) f names e = let same : faults.Tlv cut.place ≡ f = cc in subst (λ (f : ElementFault). test f ≡ true) same (names.tlv cut.place)
rest_named test t place before (Ok at ∷ items) f names e =
    elim (next_err (element_verdict t before at) (rest_verdict t place (at ∷ before) items) f e) [
      | inl here ↦ element_named test t before at f names here
      | inr later ↦ rest_named test t place (at ∷ before) items f names later
    ]

pub fault_named : (t : Table) (test : ElementFault → Bool) (place inside : ℕ) (body : List ℕ) (f : ElementFault) → PassesFaults t test → container_verdict t place inside body ≡ Err f → test f ≡ true
unfolding container_verdict
fault_named t test place inside body f names e = rest_named test t place [] (elements inside body) f names e
