-- Reading comes to no fault exactly where the body is a container, and to a fault exactly where it is the first.
use Rattle.std.proofs.Common.{◌≡◌, ℕ, zero, suc, ◌+◌, ◌<◌, ◌≤◌, Bool, true, false, cond, eqb, List, [], ◌∷◌, ◌++◌, Option, Some, None, Ok, Err, refl, sym, ap, subst, ◌∙◌, arith}
use Rattle.std.proofs.lemmas.Bool.{eqb-false, leb-false, lt-leb, ne_eqb}
use Rattle.std.specs.List.{AllByRecursion}
use Rattle.ksi_tlv.specs.Walking.{PlacedTlv, Items, elements, items_of}
use Rattle.ksi_tlv.specs.declared.grammar.fault.ElementFault.{ElementFault}
use Rattle.ksi_tlv.specs.declared.grammar.fault.ElementFault.TheVariants as faults
use Rattle.ksi_tlv.specs.Table.{Verdict, Slot, Table, is_among, slot_of, count, is_known, slots_fit, is_table}
use Rattle.ksi_tlv.specs.Containing.{◌>>=◌, is_full, over_fault, or_lack, slot_verdict, element_verdict, end_verdict, rest_verdict, container_verdict}
use Rattle.ksi_tlv.specs.Valid.{MayStandAs, MayStand, AtMost, AtLeast, AreWithin, AreEnough, IsContainer, IsWhole, StandsBehind, IsFirstFault}
use Rattle.ksi_tlv.proofs.Bools.{neither, none_of, fits_cons, table_fits}

abbrev failed : ElementFault → Verdict
failed fault = Err fault

-- ---- elements in the opposite order

-- elements before which others stand, the last first
abbrev back : List PlacedTlv → List PlacedTlv → List PlacedTlv
back acc [] = acc
back acc (at ∷ es) = back (at ∷ acc) es

count-back : (kinds : List ℕ) (acc es : List PlacedTlv) → count kinds (back acc es) ≡ count kinds acc + count kinds es
count-back kinds acc [] = omega arith
count-back kinds acc (at ∷ es) = omega (arith, count-back kinds (at ∷ acc) es)

-- as many of each kind
abbrev Alike : List PlacedTlv → List PlacedTlv → Type 0
Alike es fs = (kinds : List ℕ) → count kinds es ≡ count kinds fs

back-alike : (es : List PlacedTlv) → Alike (back [] es) es
back-alike es kinds = omega (arith, count-back kinds [] es)

pub within-alike : (slots : List Slot) (es fs : List PlacedTlv) → Alike es fs → AreWithin slots es → AreWithin slots fs
within-alike [] es fs same w = tt
within-alike (slot ∷ slots) es fs same w = (subst (AtMost slot.most) (same slot.kinds) w.0, within-alike slots es fs same w.1)

pub enough-alike : (slots : List Slot) (es fs : List PlacedTlv) → Alike es fs → AreEnough slots es → AreEnough slots fs
enough-alike [] es fs same w = tt
enough-alike (slot ∷ slots) es fs same w = (subst (AtLeast slot.lack) (same slot.kinds) w.0, enough-alike slots es fs same w.1)

end-alike : (slots : List Slot) (es fs : List PlacedTlv) (place : ℕ) → Alike es fs → end_verdict slots es place ≡ end_verdict slots fs place
end-alike [] es fs place same = refl
end-alike (slot ∷ slots) es fs place same = rw (same slot.kinds, end-alike slots es fs place same) refl

slot-alike : (t : Table) (es fs : List PlacedTlv) (at : PlacedTlv) (o : Option Slot) → Alike es fs → slot_verdict t es at o ≡ slot_verdict t fs at o
slot-alike t es fs at None same = refl
slot-alike t es fs at (Some slot) same = rw (same slot.kinds) refl

element-alike : (t : Table) (es fs : List PlacedTlv) (at : PlacedTlv) → Alike es fs → element_verdict t es at ≡ element_verdict t fs at
unfolding element_verdict
element-alike t es fs at same = rw (slot-alike t es fs at (slot_of t.slots at.element.kind) same) refl

-- ---- one element with which nothing is wrong

not_full : (o : Option ℕ) (n : ℕ) → is_full o n ≡ false → AtMost o (1 + n)
not_full None n e = tt
not_full (Some most) n e = omega (arith, leb-false _ _ e)

not_full_again : (o : Option ℕ) (n all : ℕ) → 1 + n ≤ all → AtMost o all → is_full o n ≡ false
not_full_again None n all le w = refl
not_full_again (Some most) n all le w = lt-leb _ _ (omega (arith, le, w))

within_kept : (slots : List Slot) (es : List PlacedTlv) (at : PlacedTlv) → is_known slots at.element.kind ≡ false → AreWithin slots es → AreWithin slots (at ∷ es)
within_kept [] es at off w = tt
within_kept (slot ∷ slots) es at off w =
    let n = neither (is_among at.element.kind slot.kinds) (is_known slots at.element.kind) off in
    let same : count slot.kinds es ≡ cond (is_among at.element.kind slot.kinds) 1 0 + count slot.kinds es = rw n.0 (omega arith) in
    (subst (AtMost slot.most) same w.0, within_kept slots es at n.1 w.1)

-- the element's slot has room
abbrev HasRoom : Option Slot → List PlacedTlv → Type 0
HasRoom None es = Unit {0}
HasRoom (Some slot) es = is_full slot.most (count slot.kinds es) ≡ false

within_at : (b : Bool) (slot : Slot) (slots : List Slot) (es : List PlacedTlv) (at : PlacedTlv) → is_among at.element.kind slot.kinds ≡ b → slots_fit (slot ∷ slots) ≡ true → AreWithin (slot ∷ slots) es
    → (HasRoom (slot_of slots at.element.kind) es → AreWithin slots (at ∷ es)) → HasRoom (cond b (Some slot) (slot_of slots at.element.kind)) es → AreWithin (slot ∷ slots) (at ∷ es)
within_at true slot slots es at known fit w rest room =
    let same : 1 + count slot.kinds es ≡ cond (is_among at.element.kind slot.kinds) 1 0 + count slot.kinds es = rw known refl in
    (subst (AtMost slot.most) same (not_full slot.most (count slot.kinds es) room), within_kept slots es at (none_of slots slot.kinds at.element.kind (fits_cons slot slots fit).apart known) w.1)
within_at false slot slots es at known fit w rest room =
    let same : count slot.kinds es ≡ cond (is_among at.element.kind slot.kinds) 1 0 + count slot.kinds es = rw known (omega arith) in
    (subst (AtMost slot.most) same w.0, rest room)

within_more : (slots : List Slot) (es : List PlacedTlv) (at : PlacedTlv) → slots_fit slots ≡ true → AreWithin slots es → HasRoom (slot_of slots at.element.kind) es → AreWithin slots (at ∷ es)
within_more [] es at fit w room = tt
within_more (slot ∷ slots) es at fit w room =
    within_at (is_among at.element.kind slot.kinds) slot slots es at refl fit w (within_more slots es at (fits_cons slot slots fit).others w.1) room

first_ok : (b : Bool) (d : ElementFault) (v : Verdict) → cond b (Err d) v ≡ Ok tt → (b ≡ false) × (v ≡ Ok tt)
first_ok true d v e = absurd cc
first_ok false d v e = (refl, e)

abbrev passed : Verdict
passed = Ok tt

last_ok : (b : Bool) (d : ElementFault) → cond b passed (Err d) ≡ passed → b ≡ true
last_ok true d e = refl
last_ok false d e = absurd cc

slot_ok : (t : Table) (es : List PlacedTlv) (at : PlacedTlv) (o : Option Slot) → slot_verdict t es at o ≡ Ok tt → MayStandAs t at o × HasRoom o es
slot_ok t es at None e = (last_ok at.element.non_critical (faults.UnknownCritical at.element.kind at.place) e, tt)
slot_ok t es at (Some slot) e =
    let f = first_ok (is_full slot.most (count slot.kinds es)) (over_fault slot.over at.element.kind at.place) (t.content at) e in (f.1, f.0)

element_ok : (t : Table) (es : List PlacedTlv) (at : PlacedTlv) → element_verdict t es at ≡ Ok tt → MayStand t at × HasRoom (slot_of t.slots at.element.kind) es
unfolding element_verdict
element_ok t es at e =
    let f = first_ok (is_among at.element.kind t.refused) (faults.RefusedElement at.element.kind at.place) (slot_verdict t es at (slot_of t.slots at.element.kind)) e in
    let s = slot_ok t es at (slot_of t.slots at.element.kind) f.1 in
    (record { named = f.0; fits = s.0 }, s.1)

slot_again : (t : Table) (es : List PlacedTlv) (at : PlacedTlv) (o : Option Slot) → MayStandAs t at o → HasRoom o es → slot_verdict t es at o ≡ Ok tt
slot_again t es at None fits room = rw fits refl
slot_again t es at (Some slot) fits room = rw (room, fits) refl

element_again : (t : Table) (es : List PlacedTlv) (at : PlacedTlv) → MayStand t at → HasRoom (slot_of t.slots at.element.kind) es → element_verdict t es at ≡ Ok tt
unfolding element_verdict
element_again t es at may room = rw may.named (slot_again t es at (slot_of t.slots at.element.kind) may.fits room)

room_at : (b : Bool) (slot : Slot) (o : Option Slot) (slots : List Slot) (es all : List PlacedTlv) (at : PlacedTlv) → is_among at.element.kind slot.kinds ≡ b
    → ((kinds : List ℕ) → cond (is_among at.element.kind kinds) 1 0 + count kinds es ≤ count kinds all) → AtMost slot.most (count slot.kinds all) → HasRoom o es → HasRoom (cond b (Some slot) o) es
room_at true slot o slots es all at known more w rest =
    let le = more slot.kinds in
    let one : 1 + count slot.kinds es ≤ count slot.kinds all = rw known at le in
    not_full_again slot.most (count slot.kinds es) (count slot.kinds all) one w
room_at false slot o slots es all at known more w rest = rest

-- where all the elements with this one are within, its slot has room before it
room_before : (slots : List Slot) (es all : List PlacedTlv) (at : PlacedTlv) → ((kinds : List ℕ) → cond (is_among at.element.kind kinds) 1 0 + count kinds es ≤ count kinds all) → AreWithin slots all → HasRoom (slot_of slots at.element.kind) es
room_before [] es all at more w = tt
room_before (slot ∷ slots) es all at more w =
    room_at (is_among at.element.kind slot.kinds) slot (slot_of slots at.element.kind) slots es all at refl more w.0 (room_before slots es all at more w.1)

-- ---- elements with which nothing is wrong, and what follows them

-- where reading stops: at the end, at an element that is cut off, or at one with a fault
abbrev StopsAt : Table → List PlacedTlv → Items → Type 0
StopsAt t acc [] = Unit {0}
StopsAt t acc (Err cut ∷ others) = Unit {0}
StopsAt t acc (Ok at ∷ others) = (fault : ElementFault) × (element_verdict t acc at ≡ Err fault)

record Read (t : Table) (place : ℕ) (acc : List PlacedTlv) (items : Items) : Type 0 where
  pub before : List PlacedTlv
  pub rest : Items
  pub split : items ≡ items_of before ++ rest
  pub each : AllByRecursion (MayStand t) before
  pub within : AreWithin t.slots (back acc before)
  pub gives : rest_verdict t place acc items ≡ rest_verdict t place (back acc before) rest
  pub stops : StopsAt t (back acc before) rest

read_at : (t : Table) (place : ℕ) (acc : List PlacedTlv) (at : PlacedTlv) (items : Items) (v : Verdict) → slots_fit t.slots ≡ true → AreWithin t.slots acc → element_verdict t acc at ≡ v
    → (AreWithin t.slots (at ∷ acc) → Read t place (at ∷ acc) items) → Read t place acc (Ok at ∷ items)
unfolding rest_verdict
read_at t place acc at items (Ok u) fit w e rest =
    let o = element_ok t acc at e in
    let r = rest (within_more t.slots acc at fit w o.1) in
    record { before = at ∷ r.before; rest = r.rest; split = ap (λ (items : Items). Ok at ∷ items) r.split; each = (o.0, r.each); within = r.within; gives = rw e r.gives; stops = r.stops }
read_at t place acc at items (Err fault) fit w e rest =
    record { before = []; rest = Ok at ∷ items; split = refl; each = tt; within = w; gives = refl; stops = (fault, e) }

reads : (t : Table) (place : ℕ) (acc : List PlacedTlv) (items : Items) → slots_fit t.slots ≡ true → AreWithin t.slots acc → Read t place acc items
reads t place acc [] fit w = record { before = []; rest = []; split = refl; each = tt; within = w; gives = refl; stops = tt }
reads t place acc (Err cut ∷ items) fit w = record { before = []; rest = Err cut ∷ items; split = refl; each = tt; within = w; gives = refl; stops = tt }
reads t place acc (Ok at ∷ items) fit w = read_at t place acc at items (element_verdict t acc at) fit w refl (λ w. reads t place (at ∷ acc) items fit w)

pass : (t : Table) (place : ℕ) (acc es : List PlacedTlv) (rest : Items) → AllByRecursion (MayStand t) es → AreWithin t.slots (back acc es) → rest_verdict t place acc (items_of es ++ rest) ≡ rest_verdict t place (back acc es) rest
unfolding rest_verdict
pass t place acc [] rest each w = refl
pass t place acc (at ∷ es) rest each w =
    let more : (kinds : List ℕ) → cond (is_among at.element.kind kinds) 1 0 + count kinds acc ≤ count kinds (back (at ∷ acc) es) = λ kinds. omega (arith, count-back kinds (at ∷ acc) es) in
    let ok = element_again t acc at each.0 (room_before t.slots acc (back (at ∷ acc) es) at more w) in
    rw ok (pass t place (at ∷ acc) es rest each.1 w)

none_at_most : (o : Option ℕ) → AtMost o 0
none_at_most None = tt
none_at_most (Some most) = omega arith

none_within : (slots : List Slot) → AreWithin slots []
none_within [] = tt
none_within (slot ∷ slots) = (none_at_most slot.most, none_within slots)

-- ---- at the end

positive : (n : ℕ) → (n ≡ 0 → ⊥) → 0 < n
positive zero ne = absurd (ne refl)
positive (suc n) ne = omega arith

some : (b : Bool) (n : ℕ) (d : ElementFault) (v : Verdict) → eqb n 0 ≡ b → cond b (Err d) v ≡ Ok tt → (0 < n) × (v ≡ Ok tt)
some true n d v is e = absurd cc
some false n d v is e = let ne = eqb-false n 0 is in (positive n ne, e)

lack_ok : (o : Option (ℕ → ElementFault)) (n place : ℕ) (v : Verdict) → or_lack o n place v ≡ Ok tt → AtLeast o n × (v ≡ Ok tt)
lack_ok None n place v e = (tt, e)
lack_ok (Some fault) n place v e = some (eqb n 0) n (fault place) v refl e

end_ok : (slots : List Slot) (es : List PlacedTlv) (place : ℕ) → end_verdict slots es place ≡ Ok tt → AreEnough slots es
end_ok [] es place e = tt
end_ok (slot ∷ slots) es place e =
    let l = lack_ok slot.lack (count slot.kinds es) place (end_verdict slots es place) e in (l.0, end_ok slots es place l.1)

lack_again : (o : Option (ℕ → ElementFault)) (n place : ℕ) (v : Verdict) → AtLeast o n → v ≡ Ok tt → or_lack o n place v ≡ Ok tt
lack_again None n place v w e = e
lack_again (Some fault) n place v w e = rw (ne_eqb n 0 (λ is. omega (arith, is, w))) e

end_again : (slots : List Slot) (es : List PlacedTlv) (place : ℕ) → AreEnough slots es → end_verdict slots es place ≡ Ok tt
end_again [] es place w = refl
end_again (slot ∷ slots) es place w = lack_again slot.lack (count slot.kinds es) place (end_verdict slots es place) w.0 (end_again slots es place w.1)

-- ---- whole containers, and first faults

items-append-nil : (es : List PlacedTlv) → items_of es ++ [] ≡ items_of es
items-append-nil [] = refl
items-append-nil (at ∷ es) = ap (λ (items : Items). Ok at ∷ items) (items-append-nil es)

whole_from : (t : Table) (place inside : ℕ) (body : List ℕ) (before : List PlacedTlv) (rest : Items) → elements inside body ≡ items_of before ++ rest → AllByRecursion (MayStand t) before → AreWithin t.slots (back [] before)
    → StopsAt t (back [] before) rest → rest_verdict t place (back [] before) rest ≡ Ok tt → IsWhole t inside body
unfolding rest_verdict
whole_from t place inside body before [] split each w stops e = (
  before,
  record {
    split = split ∙ items-append-nil before;
    each = each;
    within = within-alike t.slots (back [] before) before (back-alike before) w;
    enough = enough-alike t.slots (back [] before) before (back-alike before) (end_ok t.slots (back [] before) place e);
  },
)
whole_from t place inside body before (Err cut ∷ others) split each w stops e = absurd cc
whole_from t place inside body before (Ok at ∷ others) split each w stops e =
    let no : (element_verdict t (back [] before) at >>= λ _. rest_verdict t place (at ∷ back [] before) others) ≡ failed stops.0 = rw stops.1 refl in absurd cc

pub container_ok : (t : Table) (place inside : ℕ) (body : List ℕ) → is_table t ≡ true → container_verdict t place inside body ≡ Ok tt → IsWhole t inside body
unfolding container_verdict
container_ok t place inside body table e =
    let r = reads t place [] (elements inside body) (table_fits t table).1 (none_within t.slots) in
    whole_from t place inside body r.before r.rest r.split r.each r.within r.stops (sym r.gives ∙ e)

pub container_again : (t : Table) (place inside : ℕ) (body : List ℕ) (es : List PlacedTlv) → IsContainer t inside body es → container_verdict t place inside body ≡ Ok tt
unfolding container_verdict rest_verdict
container_again t place inside body es is =
    let w = within-alike t.slots es (back [] es) (λ kinds. sym (back-alike es kinds)) is.within in
    let enough = enough-alike t.slots es (back [] es) (λ kinds. sym (back-alike es kinds)) is.enough in
    ap (rest_verdict t place []) (is.split ∙ sym (items-append-nil es)) ∙ pass t place [] es [] is.each w ∙ end_again t.slots (back [] es) place enough

stands_from : (t : Table) (place : ℕ) (fault : ElementFault) (before : List PlacedTlv) (rest : Items) → StopsAt t (back [] before) rest → rest_verdict t place (back [] before) rest ≡ Err fault → StandsBehind t place fault before rest
unfolding rest_verdict
stands_from t place fault before [] stops e = end-alike t.slots before (back [] before) place (λ kinds. sym (back-alike before kinds)) ∙ e
stands_from t place fault before (Err cut ∷ others) stops e = cc
stands_from t place fault before (Ok at ∷ others) stops e =
    let is : (element_verdict t (back [] before) at >>= λ _. rest_verdict t place (at ∷ back [] before) others) ≡ failed stops.0 = rw stops.1 refl in
    let same : stops.0 ≡ fault = cc in
    element-alike t before (back [] before) at (λ kinds. sym (back-alike before kinds)) ∙ stops.1 ∙ ap failed same

pub fault_first : (t : Table) (place inside : ℕ) (body : List ℕ) (fault : ElementFault) → is_table t ≡ true → container_verdict t place inside body ≡ Err fault → IsFirstFault t place inside body fault
unfolding container_verdict
fault_first t place inside body fault table e =
    let r = reads t place [] (elements inside body) (table_fits t table).1 (none_within t.slots) in
    record {
      before = r.before;
      rest = r.rest;
      split = r.split;
      each = r.each;
      within = within-alike t.slots (back [] r.before) r.before (back-alike r.before) r.within;
      stands = stands_from t place fault r.before r.rest r.stops (sym r.gives ∙ e);
    }

rest_stops : (t : Table) (place : ℕ) (fault : ElementFault) (before : List PlacedTlv) (rest : Items) → StandsBehind t place fault before rest → rest_verdict t place (back [] before) rest ≡ Err fault
unfolding rest_verdict
rest_stops t place fault before [] h = end-alike t.slots (back [] before) before place (back-alike before) ∙ h
rest_stops t place fault before (Err cut ∷ others) h = ap failed (sym h)
rest_stops t place fault before (Ok at ∷ others) h =
    let e : element_verdict t (back [] before) at ≡ failed fault = element-alike t (back [] before) before at (back-alike before) ∙ h in rw e refl

pub first_fault : (t : Table) (place inside : ℕ) (body : List ℕ) (fault : ElementFault) → IsFirstFault t place inside body fault → container_verdict t place inside body ≡ Err fault
unfolding container_verdict
first_fault t place inside body fault is =
    let w = within-alike t.slots is.before (back [] is.before) (λ kinds. sym (back-alike is.before kinds)) is.within in
    ap (rest_verdict t place []) is.split ∙ pass t place [] is.before is.rest is.each w ∙ rest_stops t place fault is.before is.rest is.stands
