-- One counter for each slot tells what the elements before tell.
use Rattle.std.proofs.Common.{◌≡◌, ◌≢◌, ℕ, zero, suc, ◌+◌, ◌<◌, ◌≤◌, min, Bool, true, false, cond, eqb, List, [], ◌∷◌, length, get_or, replicate, Option, Some, None, Result, Ok, Err, refl, sym, ap, subst, ◌∙◌, arith, inl, inr}
use Rattle.std.specs.Prelude.{◌||◌}
use Rattle.std.proofs.lemmas.Bool.{leb-true, le-leb, lt-leb, ne_eqb}
use Rattle.std.proofs.lemmas.Bool.Decides.{leb_tells}
use Rattle.std.proofs.lemmas.List.{get_or-set_same, get_or-set_other, length-set}
use Rattle.ksi_tlv.specs.Walking.{PlacedTlv}
use Rattle.ksi_tlv.specs.declared.grammar.fault.ElementFault.{ElementFault}
use Rattle.ksi_tlv.specs.declared.grammar.fault.ElementFault.TheVariants as faults
use Rattle.ksi_tlv.specs.declared.grammar.rule.Rule.{Rule}
use Rattle.ksi_tlv.specs.Table.{Verdict, Slot, Table, is_among, slot_of, count, is_known, limit_fits, slots_fit, is_table}
use Rattle.ksi_tlv.specs.Containing.{◌>>=◌, is_full, over_fault, or_lack, slot_verdict, element_verdict, end_verdict}
use Rattle.ksi_tlv.specs.Counters.{rule_from, rule_of, lack_from, counted, rule_step, step, CountFrom, IsCounted}
use Rattle.ksi_tlv.proofs.Bools.{neither, none_of, fits_cons, table_fits}

-- ---- a counter that stays at 65,535

capped_full : (o : Option ℕ) (n : ℕ) → limit_fits o ≡ true → is_full o (min n 65535) ≡ is_full o n
capped_full None n fit = refl
capped_full (Some most) n fit =
    let le : most ≤ 65535 = leb-true _ _ fit in
    elim (leb_tells most n) [
      | inl p ↦ le-leb most (min n 65535) (omega (arith, p.1, le)) ∙ sym p.0
      | inr p ↦ lt-leb most (min n 65535) (omega (arith, p.1)) ∙ sym p.0
    ]

capped_empty : (n : ℕ) → eqb (min n 65535) 0 ≡ eqb n 0
capped_empty zero = refl
capped_empty (suc n) = ne_eqb (min (suc n) 65535) 0 (λ e. omega (arith, e)) ∙ sym (ne_eqb (suc n) 0 (λ e. omega (arith, e)))

counted-same : (seen : List ℕ) (i : ℕ) → i < length seen → get_or (counted seen i) i 0 ≡ min (get_or seen i 0 + 1) 65535
counted-same seen i lt = rw get_or-set_same refl

counted-other : (seen : List ℕ) (i j : ℕ) → j ≢ i → get_or (counted seen i) j 0 ≡ get_or seen j 0
counted-other seen i j ne = rw get_or-set_other refl

-- ---- the rule of a kind is its slot's

none_if : (b k : Bool) (rule : Rule) (o : Option Rule) (slot : Slot) (p : Option Slot) → (o ≡ None → (p ≡ None) × (k ≡ false)) → cond b (Some rule) o ≡ None → (cond b (Some slot) p ≡ None) × ((b || k) ≡ false)
none_if true k rule o slot p rest e = absurd cc
none_if false k rule o slot p rest e = rest e

rule_none : (i : ℕ) (slots : List Slot) (kind : ℕ) → rule_from i slots kind ≡ None → (slot_of slots kind ≡ None) × (is_known slots kind ≡ false)
rule_none i [] kind e = (refl, refl)
rule_none i (slot ∷ slots) kind e =
    none_if (is_among kind slot.kinds) (is_known slots kind) (record { slot = i; most = slot.most; over = slot.over }) (rule_from (suc i) slots kind) slot (slot_of slots kind) (rule_none (suc i) slots kind) e

record Found (i : ℕ) (slots : List Slot) (kind : ℕ) (rule : Rule) (seen : List ℕ) (es : List PlacedTlv) : Type 0 where
  pub slot : Slot
  pub is : slot_of slots kind ≡ Some slot
  pub most : rule.most ≡ slot.most
  pub over : rule.over ≡ slot.over
  pub fits : limit_fits slot.most ≡ true
  pub from : i ≤ rule.slot
  pub counts : get_or seen rule.slot 0 ≡ min (count slot.kinds es) 65535

found_at : (b : Bool) (i : ℕ) (slot : Slot) (slots : List Slot) (kind : ℕ) (rule : Rule) (seen : List ℕ) (es : List PlacedTlv) → is_among kind slot.kinds ≡ b → limit_fits slot.most ≡ true
    → get_or seen i 0 ≡ min (count slot.kinds es) 65535 → (rule_from (suc i) slots kind ≡ Some rule → Found (suc i) slots kind rule seen es)
    → cond b (Some (record { slot = i; most = slot.most; over = slot.over })) (rule_from (suc i) slots kind) ≡ Some rule → Found i (slot ∷ slots) kind rule seen es
found_at true i slot slots kind rule seen es known fit here rest e =
    let same : record { slot = i; most = slot.most; over = slot.over } ≡ rule = cc in
    subst (λ (rule : Rule). Found i (slot ∷ slots) kind rule seen es) same (record { slot = slot; is = rw known refl; most = refl; over = refl; fits = fit; from = omega arith; counts = here })
found_at false i slot slots kind rule seen es known fit here rest e =
    let f = rest e in
    record { slot = f.slot; is = rw known f.is; most = f.most; over = f.over; fits = f.fits; from = omega (arith, f.from); counts = f.counts }

rule_found : (i : ℕ) (slots : List Slot) (kind : ℕ) (rule : Rule) (seen : List ℕ) (es : List PlacedTlv) → slots_fit slots ≡ true → CountFrom i slots seen es → rule_from i slots kind ≡ Some rule → Found i slots kind rule seen es
rule_found i [] kind rule seen es fit c e = absurd cc
rule_found i (slot ∷ slots) kind rule seen es fit c e =
    let f = fits_cons slot slots fit in
    found_at (is_among kind slot.kinds) i slot slots kind rule seen es refl f.limit c.0 (rule_found (suc i) slots kind rule seen es f.others c.1) e

-- ---- one element more

-- of a kind that none of the slots has
kept : (i : ℕ) (slots : List Slot) (seen new : List ℕ) (es : List PlacedTlv) (at : PlacedTlv) → is_known slots at.element.kind ≡ false → ((j : ℕ) → i ≤ j → get_or new j 0 ≡ get_or seen j 0) → CountFrom i slots seen es → CountFrom i slots new (at ∷ es)
kept i [] seen new es at off same c = tt
kept i (slot ∷ slots) seen new es at off same c =
    let n = neither (is_among at.element.kind slot.kinds) (is_known slots at.element.kind) off in
    let here : get_or new i 0 ≡ min (count slot.kinds es) 65535 = same i (omega arith) ∙ c.0 in
    (rw n.0 (omega (arith, here)), kept (suc i) slots seen new es at n.1 (λ j le. same j (omega (arith, le))) c.1)

updated_at : (b : Bool) (i : ℕ) (slot : Slot) (slots : List Slot) (seen : List ℕ) (es : List PlacedTlv) (at : PlacedTlv) (rule : Rule) → is_among at.element.kind slot.kinds ≡ b → slots_fit (slot ∷ slots) ≡ true → i < length seen
    → CountFrom i (slot ∷ slots) seen es → (rule_from (suc i) slots at.element.kind ≡ Some rule → CountFrom (suc i) slots (counted seen rule.slot) (at ∷ es))
    → cond b (Some (record { slot = i; most = slot.most; over = slot.over })) (rule_from (suc i) slots at.element.kind) ≡ Some rule → CountFrom i (slot ∷ slots) (counted seen rule.slot) (at ∷ es)
updated_at true i slot slots seen es at rule known fit lt c rest e =
    let same : i ≡ rule.slot = cc in
    let here = counted-same seen i lt in
    let off = none_of slots slot.kinds at.element.kind (fits_cons slot slots fit).apart known in
    subst (λ (j : ℕ). CountFrom i (slot ∷ slots) (counted seen j) (at ∷ es)) same
    (rw known (omega (arith, here, c.0)), kept (suc i) slots seen (counted seen i) es at off (λ j le. counted-other seen i j (λ e. omega (arith, e, le))) c.1)
updated_at false i slot slots seen es at rule known fit lt c rest e =
    let f = rule_found (suc i) slots at.element.kind rule seen es (fits_cons slot slots fit).others c.1 e in
    let here = counted-other seen rule.slot i (λ e. omega (arith, e, f.from)) in
    (rw known (omega (arith, here, c.0)), rest e)

updated : (i : ℕ) (slots : List Slot) (seen : List ℕ) (es : List PlacedTlv) (at : PlacedTlv) (rule : Rule) → slots_fit slots ≡ true → i + length slots ≤ length seen → CountFrom i slots seen es → rule_from i slots at.element.kind ≡ Some rule → CountFrom i slots (counted seen rule.slot) (at ∷ es)
updated i [] seen es at rule fit within c e = absurd cc
updated i (slot ∷ slots) seen es at rule fit within c e =
    updated_at (is_among at.element.kind slot.kinds) i slot slots seen es at rule refl fit (omega (arith, within)) c
    (updated (suc i) slots seen es at rule (fits_cons slot slots fit).others (omega (arith, within)) c.1) e

-- ---- what is wrong with an element, by the counters

same_if : (b : Bool) (d : ElementFault) (v : Verdict) (r : Result (List ℕ) ElementFault) → v ≡ (r >>= λ _. Ok tt) → cond b (Err d) v ≡ (cond b (Err d) r >>= λ _. Ok tt)
same_if true d v r e = refl
same_if false d v r e = e

abbrev passed : Verdict
passed = Ok tt

abbrev goes_to : List ℕ → Result (List ℕ) ElementFault
goes_to seen = Ok seen

same_last : (b : Bool) (d : ElementFault) (seen : List ℕ) → cond b passed (Err d) ≡ (cond b (goes_to seen) (Err d) >>= λ _. passed)
same_last true d seen = refl
same_last false d seen = refl

same_content : (v : Verdict) (seen : List ℕ) → v ≡ ((v >>= λ _. Ok seen) >>= λ _. Ok tt)
same_content (Ok u) seen = refl
same_content (Err d) seen = refl

slot_found : (t : Table) (seen : List ℕ) (before : List PlacedTlv) (at : PlacedTlv) (rule : Rule) (slot : Slot) → slot_of t.slots at.element.kind ≡ Some slot → rule.most ≡ slot.most → rule.over ≡ slot.over → limit_fits slot.most ≡ true
    → get_or seen rule.slot 0 ≡ min (count slot.kinds before) 65535 → slot_verdict t before at (slot_of t.slots at.element.kind) ≡ (rule_step t seen at (Some rule) >>= λ _. Ok tt)
slot_found t seen before at rule slot is most over fits counts =
    let full : is_full rule.most (get_or seen rule.slot 0) ≡ is_full slot.most (count slot.kinds before) =
    ap (λ (o : Option ℕ). is_full o (get_or seen rule.slot 0)) most ∙ ap (is_full slot.most) counts ∙ capped_full slot.most (count slot.kinds before) fits in
    rw (is, full, over) (same_if (is_full slot.most (count slot.kinds before)) (over_fault slot.over at.element.kind at.place) (t.content at) (t.content at >>= λ _. Ok (counted seen rule.slot)) (same_content (t.content at) (counted seen rule.slot)))

slot_is : (t : Table) (seen : List ℕ) (before : List PlacedTlv) (at : PlacedTlv) (o : Option Rule) → slots_fit t.slots ≡ true → CountFrom 0 t.slots seen before → rule_of t at.element.kind ≡ o
    → slot_verdict t before at (slot_of t.slots at.element.kind) ≡ (rule_step t seen at o >>= λ _. Ok tt)
slot_is t seen before at None fit c e =
    rw (rule_none 0 t.slots at.element.kind e).0 (same_last at.element.non_critical (faults.UnknownCritical at.element.kind at.place) seen)
slot_is t seen before at (Some rule) fit c e =
    let f = rule_found 0 t.slots at.element.kind rule seen before fit c e in
    slot_found t seen before at rule f.slot f.is f.most f.over f.fits f.counts

verdict_is : (t : Table) (seen : List ℕ) (before : List PlacedTlv) (at : PlacedTlv) → is_table t ≡ true → IsCounted t seen before → element_verdict t before at ≡ (step t seen at >>= λ _. Ok tt)
unfolding element_verdict step
verdict_is t seen before at table c =
    same_if (is_among at.element.kind t.refused) (faults.RefusedElement at.element.kind at.place) (slot_verdict t before at (slot_of t.slots at.element.kind)) (rule_step t seen at (rule_of t at.element.kind))
    (slot_is t seen before at (rule_of t at.element.kind) (table_fits t table).1 c.counts refl)

pub step_err : (t : Table) (seen : List ℕ) (before : List PlacedTlv) (at : PlacedTlv) (fault : ElementFault) → is_table t ≡ true → IsCounted t seen before → step t seen at ≡ Err fault → element_verdict t before at ≡ Err fault
step_err t seen before at fault table c e = verdict_is t seen before at table c ∙ rw e refl

first_ok : {A : Type 0} (b : Bool) (d : ElementFault) (r : Result A ElementFault) (y : A) → cond b (Err d) r ≡ Ok y → r ≡ Ok y
first_ok true d r y e = absurd cc
first_ok false d r y e = e

last_ok : {A : Type 0} (b : Bool) (d : ElementFault) (x y : A) → cond b (Ok x) (Err d) ≡ Ok y → x ≡ y
last_ok true d x y e = cc
last_ok false d x y e = absurd cc

then_ok : {A : Type 0} (r : Verdict) (x y : A) → (r >>= λ _. Ok x) ≡ Ok y → x ≡ y
then_ok (Ok u) x y e = cc
then_ok (Err d) x y e = absurd cc

rule_counted : (t : Table) (seen new : List ℕ) (before : List PlacedTlv) (at : PlacedTlv) (o : Option Rule) → is_table t ≡ true → IsCounted t seen before → rule_of t at.element.kind ≡ o → rule_step t seen at o ≡ Ok new → IsCounted t new (at ∷ before)
rule_counted t seen new before at None table c is e =
    let same = last_ok at.element.non_critical (faults.UnknownCritical at.element.kind at.place) seen new e in
    subst (λ (new : List ℕ). IsCounted t new (at ∷ before)) same
    (record { long = c.long; counts = kept 0 t.slots seen seen before at (rule_none 0 t.slots at.element.kind is).1 (λ j le. refl) c.counts })
rule_counted t seen new before at (Some rule) table c is e =
    let f = table_fits t table in
    let here = first_ok (is_full rule.most (get_or seen rule.slot 0)) (over_fault rule.over at.element.kind at.place) (t.content at >>= λ _. Ok (counted seen rule.slot)) new e in
    let same = then_ok (t.content at) (counted seen rule.slot) new here in
    subst (λ (new : List ℕ). IsCounted t new (at ∷ before)) same
    (record { long = length-set seen rule.slot _ ∙ c.long; counts = updated 0 t.slots seen before at rule f.1 (omega (arith, f.0, c.long)) c.counts is })

pub step_ok : (t : Table) (seen new : List ℕ) (before : List PlacedTlv) (at : PlacedTlv) → is_table t ≡ true → IsCounted t seen before → step t seen at ≡ Ok new → (element_verdict t before at ≡ Ok tt) × IsCounted t new (at ∷ before)
unfolding step
step_ok t seen new before at table c e =
    let v : element_verdict t before at ≡ (step t seen at >>= λ _. Ok tt) = verdict_is t seen before at table c in
    (v ∙ rw e refl, rule_counted t seen new before at (rule_of t at.element.kind) table c refl (first_ok (is_among at.element.kind t.refused) (faults.RefusedElement at.element.kind at.place) (rule_step t seen at (rule_of t at.element.kind)) new e))

-- ---- at the start and at the end

abbrev nothing : List ℕ
nothing = replicate 8 0

none_yet : (i : ℕ) → get_or nothing i 0 ≡ 0
none_yet zero = refl
none_yet (suc zero) = refl
none_yet (suc (suc zero)) = refl
none_yet (suc (suc (suc zero))) = refl
none_yet (suc (suc (suc (suc zero)))) = refl
none_yet (suc (suc (suc (suc (suc zero))))) = refl
none_yet (suc (suc (suc (suc (suc (suc zero)))))) = refl
none_yet (suc (suc (suc (suc (suc (suc (suc zero))))))) = refl
none_yet (suc (suc (suc (suc (suc (suc (suc (suc i)))))))) = refl

start_from : (i : ℕ) (slots : List Slot) → CountFrom i slots (replicate 8 0) []
start_from i [] = tt
start_from i (slot ∷ slots) = (omega (arith, none_yet i), start_from (suc i) slots)

pub counted_none : (t : Table) → IsCounted t (replicate 8 0) []
counted_none t = record { long = refl; counts = start_from 0 t.slots }

lack-same : (o : Option (ℕ → ElementFault)) (n m place : ℕ) (v w : Verdict) → n ≡ min m 65535 → v ≡ w → or_lack o n place v ≡ or_lack o m place w
lack-same None n m place v w is same = same
lack-same (Some fault) n m place v w is same = rw (is, capped_empty m, same) refl

lack_is : (i : ℕ) (slots : List Slot) (seen : List ℕ) (es : List PlacedTlv) (place : ℕ) → CountFrom i slots seen es → lack_from i slots seen place ≡ end_verdict slots es place
lack_is i [] seen es place c = refl
lack_is i (slot ∷ slots) seen es place c =
    lack-same slot.lack (get_or seen i 0) (count slot.kinds es) place (lack_from (suc i) slots seen place) (end_verdict slots es place) c.0 (lack_is (suc i) slots seen es place c.1)

pub end_is : (t : Table) (seen : List ℕ) (es : List PlacedTlv) (place : ℕ) → IsCounted t seen es → lack_from 0 t.slots seen place ≡ end_verdict t.slots es place
end_is t seen es place c = lack_is 0 t.slots seen es place c.counts
