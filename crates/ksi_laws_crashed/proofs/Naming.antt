-- Names of numbers: two that change places, and what stays under such a change.
use Rattle.std.proofs.Common.{◌≡◌, ℕ, zero, suc, eqb, Bool, true, false, if◌then◌else◌, List, [], ◌∷◌, map, option_map, refl, sym, ap, ◌∙◌, Option, Some, None}
use Rattle.std.specs.Prelude.{slice_get, unwrap_or, ◌≢◌}
use Rattle.std.proofs.lemmas.Bool.{cond-true, cond-false, eqb-true, eq-eqb, false_from_ne_true}
use Rattle.ksi_aggtree.specs.declared.item.Item.{Item}
use Rattle.ksi_aggtree.specs.declared.entries.Entry.{Entry}
use Rattle.ksi_aggtree.specs.declared.entries.Origin.{Origin}
use Rattle.ksi_aggtree.specs.declared.entries.Origin.TheVariants as origins
use Rattle.ksi_aggregator.specs.Issuing.{from_request}
use Rattle.ksi_aggregator.specs.Rounds.{items_in}
use Rattle.ksi_aggregator.specs.Rows.{RoundState}
use Rattle.ksi_aggregator.specs.declared.fact.Fact.{Fact}
use Rattle.ksi_aggregator.specs.declared.fact.RoundFact.{RoundFact}
use Rattle.ksi_aggregator.specs.declared.fact.RoundFact.TheVariants as stored
use Rattle.ksi_aggregator.specs.Renamed.{IsOneToOne, origin_renamed, entry_renamed, entries_renamed, round_renamed, fact_renamed}
use Rattle.ksi_laws_crashed.specs.RoundFacts.{facts_named}

-- TWO NUMBERS CHANGE PLACES

abbrev pub changed : (p q : ℕ) → ℕ → ℕ
changed p q y = if eqb y p then q else if eqb y q then p else y

apart : (x y : ℕ) → x ≢ y → eqb x y ≡ false
apart x y other = false_from_ne_true (eqb x y) (λ is. other (eqb-true x y is))

pub changed_first : (p q : ℕ) → changed p q p ≡ q
changed_first p q = cond-true (eqb p p) q (if eqb p q then p else p) (eq-eqb p p refl)

pub changed_other : (p q y : ℕ) → y ≢ p → y ≢ q → changed p q y ≡ y
changed_other p q y first second = cond-false (eqb y p) q (if eqb y q then p else y) (apart y p first) ∙ cond-false (eqb y q) p y (apart y q second)

changed_second : (p q : ℕ) → changed p q q ≡ p
changed_second p q = by (eqb q p) refl
  where
    by : (b : Bool) → eqb q p ≡ b → changed p q q ≡ p
    by true is = cond-true (eqb q p) q (if eqb q q then p else q) is ∙ eqb-true q p is
    by false is = cond-false (eqb q p) q (if eqb q q then p else q) is ∙ cond-true (eqb q q) p q (eq-eqb q q refl)

changed_twice : (p q y : ℕ) → changed p q (changed p q y) ≡ y
changed_twice p q y = by (eqb y p) refl (eqb y q) refl
  where
    by : (b : Bool) → eqb y p ≡ b → (c : Bool) → eqb y q ≡ c → changed p q (changed p q y) ≡ y
    by true is c here = ap (changed p q) (cond-true (eqb y p) q (if eqb y q then p else y) is) ∙ changed_second p q ∙ sym (eqb-true y p is)
    by false is true here = ap (changed p q) (cond-false (eqb y p) q (if eqb y q then p else y) is ∙ cond-true (eqb y q) p y here) ∙ changed_first p q ∙ sym (eqb-true y q here)
    by false is false here =
        let same : changed p q y ≡ y = cond-false (eqb y p) q (if eqb y q then p else y) is ∙ cond-false (eqb y q) p y here in
        ap (changed p q) same ∙ same

pub still_one : (p q : ℕ) (name : ℕ → ℕ) → IsOneToOne name → IsOneToOne (λ x. changed p q (name x))
still_one p q name one a b same = one a b (sym (changed_twice p q (name a)) ∙ ap (changed p q) same ∙ changed_twice p q (name b))

-- ITEMS THAT STAY

module _ (other : ℕ → ℕ) where
  origin_stays : (o : Origin) → ((y : ℕ) → o ≡ origins.Request y → other y ≡ y) → origin_renamed other o ≡ o
  origin_stays (origins.Request y) stays = ap (λ (n : ℕ). origins.Request n) (stays y refl)
  origin_stays (origins.Aggregator from) stays = refl

  entries_stay : (es : List Entry) → ((i y : ℕ) (item : Item) → slice_get es i ≡ Some (from_request y item) → other y ≡ y) → entries_renamed other es ≡ es
  entries_stay [] stays = refl
  entries_stay (e ∷ es) stays =
      ap (λ (o : Origin). record { origin = o; item = e.item } ∷ entries_renamed other es)
      (origin_stays e.origin (λ y is. stays 0 y e.item (ap (λ (o : Origin). Some (record { origin = o; item = e.item })) is)))
      ∙ ap (λ (rest : List Entry). e ∷ rest) (entries_stay es (λ i y item at. stays (suc i) y item at))

  pub round_stays : (r : RoundState) → ((entries : List Entry) → r.closed ≡ Some entries → r.open_items ≡ []) → ((i y : ℕ) (item : Item) → slice_get (items_in r) i ≡ Some (from_request y item) → other y ≡ y)
      → round_renamed other r ≡ r
  round_stays r emptied stays = λ i. record { open_items = open_same r.closed refl i; closed = closed_same r.closed refl i; answered = r.answered }
    where
      in_front : (o : Option (List Entry)) → r.closed ≡ o → (i y : ℕ) (item : Item) → slice_get (unwrap_or o r.open_items) i ≡ Some (from_request y item) → other y ≡ y
      in_front o at i y item found = stays i y item (ap (λ (o : Option (List Entry)). slice_get (unwrap_or o r.open_items) i) at ∙ found)

      open_same : (o : Option (List Entry)) → r.closed ≡ o → entries_renamed other r.open_items ≡ r.open_items
      open_same None at = entries_stay r.open_items (in_front None at)
      open_same (Some es) at = ap (entries_renamed other) (emptied es at) ∙ sym (emptied es at)

      closed_same : (o : Option (List Entry)) → r.closed ≡ o → option_map (entries_renamed other) o ≡ o
      closed_same None at = refl
      closed_same (Some es) at = ap (λ (l : List Entry). Some l) (entries_stay es (in_front (Some es) at))

  -- a fact whose items stay
  pub fact_stays : (t : ℕ) (what : RoundFact) → ((entries : List Entry) → what ≡ stored.Closed entries → (i y : ℕ) (item : Item) → slice_get entries i ≡ Some (from_request y item) → other y ≡ y)
      → fact_renamed other what ≡ what
  fact_stays t (stored.Closed entries) stays = ap (λ (l : List Entry). stored.Closed l) (entries_stay entries (stays entries refl))
  fact_stays t (stored.Answered above) stays = refl

pub each_stays : {A : Type 0} (f : A → A) (xs : List A) → ((i : ℕ) (x : A) → slice_get xs i ≡ Some x → f x ≡ x) → map f xs ≡ xs
each_stays f [] stays = refl
each_stays f (x ∷ xs) stays = ap (λ y. y ∷ map f xs) (stays 0 x refl) ∙ ap (λ rest. x ∷ rest) (each_stays f xs (λ i y at. stays (suc i) y at))

-- ONE NAME AFTER ANOTHER

module _ (other name : ℕ → ℕ) where
  abbrev Both : ℕ → ℕ
  Both x = other (name x)

  origin_both : (o : Origin) → origin_renamed other (origin_renamed name o) ≡ origin_renamed Both o
  origin_both (origins.Request number) = refl
  origin_both (origins.Aggregator from) = refl

  entries_both : (es : List Entry) → entries_renamed other (entries_renamed name es) ≡ entries_renamed Both es
  entries_both [] = refl
  entries_both (e ∷ es) =
      ap (λ (o : Origin). record { origin = o; item = e.item } ∷ entries_renamed other (entries_renamed name es)) (origin_both e.origin)
      ∙ ap (λ (rest : List Entry). record { origin = origin_renamed Both e.origin; item = e.item } ∷ rest) (entries_both es)

  closed_both : (o : Option (List Entry)) → option_map (entries_renamed other) (option_map (entries_renamed name) o) ≡ option_map (entries_renamed Both) o
  closed_both None = refl
  closed_both (Some es) = ap (λ (l : List Entry). Some l) (entries_both es)

  pub round_both : (r : RoundState) → round_renamed other (round_renamed name r) ≡ round_renamed Both r
  round_both r = λ i. record { open_items = entries_both r.open_items i; closed = closed_both r.closed i; answered = r.answered }

  what_both : (what : RoundFact) → fact_renamed other (fact_renamed name what) ≡ fact_renamed Both what
  what_both (stored.Closed entries) = ap (λ (l : List Entry). stored.Closed l) (entries_both entries)
  what_both (stored.Answered above) = refl

  pub facts_both : (fs : List Fact) → facts_named other (facts_named name fs) ≡ facts_named Both fs
  facts_both [] = refl
  facts_both (f ∷ fs) =
      ap (λ (what : RoundFact). record { second = f.second; what = what } ∷ facts_named other (facts_named name fs)) (what_both f.what)
      ∙ ap (λ (rest : List Fact). record { second = f.second; what = fact_renamed Both f.what } ∷ rest) (facts_both fs)

-- WHAT STANDS UNDER A NAME

module _ (name : ℕ → ℕ) where
  pub items_named : (r : RoundState) → items_in (round_renamed name r) ≡ entries_renamed name (items_in r)
  items_named r = by r.closed
    where
      by : (o : Option (List Entry)) → unwrap_or (option_map (entries_renamed name) o) (entries_renamed name r.open_items) ≡ entries_renamed name (unwrap_or o r.open_items)
      by None = refl
      by (Some es) = refl

  -- an item of a request under its name is one of the request
  pub found_named : (es : List Entry) (i y : ℕ) (item : Item) → slice_get (entries_renamed name es) i ≡ Some (from_request y item) → (x : ℕ) × (name x ≡ y) × (slice_get es i ≡ Some (from_request x item))
  found_named [] i y item at = absurd (cc at)
  found_named (e ∷ es) (suc i) y item at = found_named es i y item at
  found_named (e ∷ es) zero y item at =
      let here : entry_renamed name e ≡ from_request y item = cc at in
      by e.origin e.item (ap (λ (e : Entry). e.origin) here) (ap (λ (e : Entry). e.item) here)
    where
      by : (o : Origin) (it : Item) → origin_renamed name o ≡ origins.Request y → it ≡ item → (x : ℕ) × (name x ≡ y) × (Some (record { origin = o; item = it }) ≡ Some (from_request x item))
      by (origins.Request x) it is same = (x, cc is, ap (λ (it : Item). Some (from_request x it)) same)
      by (origins.Aggregator from) it is same = absurd (cc is)
