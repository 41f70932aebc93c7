-- What is left of lawful facts is lawful, and what it makes of each round.
use Rattle.std.proofs.Common.{◌≡◌, ◌∙◌, ℕ, Bool, true, false, List, [], ◌∷◌, ◌++◌, slice_get, Option, Some, None, refl, sym, ap, subst, append_assoc}
use Rattle.std.specs.Prelude.{◌==◌, if◌then◌else◌, option_map}
use Rattle.std.proofs.lemmas.Bool.{eqb-true}
use Rattle.std.proofs.lemmas.List.{append-nil}
use Rattle.std.proofs.lemmas.Option.{none-some}
use Rattle.ksi_aggtree.specs.declared.entries.Entry.{Entry}
use Rattle.ksi_signature.specs.declared.above.Above.{Above}
use Rattle.ksi_aggregator.specs.declared.fact.RoundFact.{RoundFact}
use Rattle.ksi_aggregator.specs.declared.fact.RoundFact.TheVariants.{Closed, Answered}
use Rattle.ksi_aggregator.specs.declared.fact.Fact.{Fact}
use Rattle.ksi_aggregator.specs.Facts.{StableRound, with_what, with_fact}
use Rattle.ksi_aggregator.specs.Issuing.{from_request}
use Rattle.ksi_aggregator.specs.Rounds.{fact_of}
use Rattle.ksi_aggregator.specs.Lawful.{stored_by, closed_items, MayStore, IsLawful, AreLawful, AreApart}
use Rattle.ksi_roundstore.specs.Left.{what_is_left, left_of_one, left_of}
use Rattle.ksi_roundstore.proofs.Reasons.{lawful_here}

-- the stable part of a forgotten round: closed without items, where it is closed
abbrev pub emptied : StableRound → StableRound
emptied s = record { closed = option_map (λ (items : List Entry). []) s.closed; answered = None }

abbrev pub with_emptied : Bool → StableRound → StableRound
with_emptied true s = emptied s
with_emptied false s = s

apart_within : (items fewer : ℕ → List Entry) → ((t k : ℕ) (e : Entry) → slice_get (fewer t) k ≡ Some e → slice_get (items t) k ≡ Some e) → AreApart items → AreApart fewer
apart_within items fewer within apart number t j u k x y at bt =
    apart number t j u k x y (within t j (from_request number x) at) (within u k (from_request number y) bt)

none_in : (c : Option (List Entry)) (k : ℕ) (e : Entry) → slice_get (closed_items (emptied (record { closed = c; answered = None }))) k ≡ Some e → ⊥
none_in None k e at = none-some e at
none_in (Some items) k e at = none-some e at

fewer_in : (b : Bool) (s : StableRound) (k : ℕ) (e : Entry) → slice_get (closed_items (with_emptied b s)) k ≡ Some e → slice_get (closed_items s) k ≡ Some e
fewer_in true s k e at = absurd (none_in s.closed k e at)
fewer_in false s k e at = at

open_still : (b : Bool) (s : StableRound) → s.closed ≡ None → (with_emptied b s).closed ≡ None
open_still true s is = ap (λ (o : Option (List Entry)). option_map (λ (items : List Entry). []) o) is
open_still false s is = is

-- FACTS BEHIND OTHERS

module _ (forgotten : ℕ → Bool) where
  pub left_then : (front : List Fact) (fact : Fact) → left_of forgotten (front ++ fact ∷ []) ≡ left_of forgotten front ++ left_of_one forgotten fact
  left_then [] fact = append-nil (left_of_one forgotten fact)
  left_then (x ∷ front) fact =
      ap (λ (l : List Fact). left_of_one forgotten x ++ l) (left_then front fact)
      ∙ sym (append_assoc (left_of_one forgotten x) (left_of forgotten front) (left_of_one forgotten fact))

  -- what is stored by the facts left
  abbrev seen : (ℕ → StableRound) → ℕ → StableRound
  seen stored t = with_emptied (forgotten t) (stored t)

  -- a fact, behind those that stored this: what is left of it is lawful behind what is left of them
  module _ (stored : ℕ → StableRound) (second : ℕ) where
    -- a closing, with its items or without
    closing_apart : (items fewer : List Entry) → ((k : ℕ) (e : Entry) → slice_get fewer k ≡ Some e → slice_get items k ≡ Some e)
        → AreApart (λ t. closed_items (with_fact (Some (fact_of second (Closed items))) t (stored t)))
        → AreApart (λ t. closed_items (with_fact (Some (fact_of second (Closed fewer))) t (seen stored t)))
    closing_apart items fewer within apart =
        apart_within (λ t. closed_items (with_fact (Some (fact_of second (Closed items))) t (stored t))) (λ t. closed_items (with_fact (Some (fact_of second (Closed fewer))) t (seen stored t)))
        (λ t. by t (t == second)) apart
      where
        by : (t : ℕ) (here : Bool) (k : ℕ) (e : Entry) → slice_get (closed_items (if here then with_what (Closed fewer) (seen stored t) else seen stored t)) k ≡ Some e
            → slice_get (closed_items (if here then with_what (Closed items) (stored t) else stored t)) k ≡ Some e
        by t true k e at = within k e at
        by t false k e at = fewer_in (forgotten t) (stored t) k e at

    pub left_lawful : (what : RoundFact) → IsLawful stored (fact_of second what) → (b : Bool) → forgotten second ≡ b
        → (kept : RoundFact) → (if b then what_is_left second what else fact_of second what ∷ []) ≡ fact_of second kept ∷ [] → IsLawful (seen stored) (fact_of second kept)
    left_lawful (Closed items) lawful true is kept same =
        let one : fact_of second (Closed []) ≡ fact_of second kept = cc same in
        subst (λ (fact : Fact). IsLawful (seen stored) fact) one
        (record {
          below = lawful.below;
          what = record {
            open_yet = open_still (forgotten second) (stored second) lawful.what.open_yet;
            added = tt;
            apart = closing_apart items [] (λ k e at. absurd (none-some e at)) lawful.what.apart;
          };
        })
    left_lawful (Closed items) lawful false is kept same =
        let one : fact_of second (Closed items) ≡ fact_of second kept = cc same in
        subst (λ (fact : Fact). IsLawful (seen stored) fact) one
        (record {
          below = lawful.below;
          what = record {
            open_yet = open_still (forgotten second) (stored second) lawful.what.open_yet;
            added = lawful.what.added;
            apart = closing_apart items items (λ k e at. at) lawful.what.apart;
          };
        })
    left_lawful (Answered above) lawful true is kept same = absurd (cc same)
    left_lawful (Answered above) lawful false is kept same =
        let one : fact_of second (Answered above) ≡ fact_of second kept = cc same in
        subst (λ (fact : Fact). IsLawful (seen stored) fact) one
        (record {
          below = lawful.below;
          what = subst (λ (b : Bool). MayStore (λ (t : ℕ). with_emptied b (stored t)) second (Answered above)) (sym is) lawful.what;
        })

  -- the facts left of some are lawful, and this is stored by them
  pub record AreLeft (front : List Fact) : Type 0 where
    pub lawful : AreLawful (left_of forgotten front)
    pub stored : (t : ℕ) → stored_by (left_of forgotten front) t ≡ seen (stored_by front) t

  module _
      (none : AreLawful [])
      (more : (facts : List Fact) (fact : Fact) → AreLawful facts → IsLawful (stored_by facts) fact → AreLawful (facts ++ fact ∷ []))
      (stored_more : (facts : List Fact) (fact : Fact) (t : ℕ) → stored_by (facts ++ fact ∷ []) t ≡ with_fact (Some fact) t (stored_by facts t)) where
    none_left : AreLeft []
    none_left = record { lawful = none; stored = λ t. by (forgotten t) }
      where
        by : (b : Bool) → (record { closed = None; answered = None }) ≡ with_emptied b (record { closed = None; answered = None })
        by true = refl
        by false = refl

    -- one fact more, of which a fact is left
    kept_more : (front : List Fact) (second : ℕ) (what kept : RoundFact) → AreLeft front → left_of_one forgotten (fact_of second what) ≡ fact_of second kept ∷ [] → IsLawful (seen (stored_by front)) (fact_of second kept)
        → ((t : ℕ) (s : StableRound) → with_fact (Some (fact_of second kept)) t (with_emptied (forgotten t) s) ≡ with_emptied (forgotten t) (with_fact (Some (fact_of second what)) t s))
        → AreLeft (front ++ fact_of second what ∷ [])
    kept_more front second what kept left same lawful alike =
        let left_is : left_of forgotten (front ++ fact_of second what ∷ []) ≡ left_of forgotten front ++ fact_of second kept ∷ [] = left_then front (fact_of second what) ∙ ap (λ (l : List Fact). left_of forgotten front ++ l) same in
        let before : stored_by (left_of forgotten front) ≡ seen (stored_by front) = (λ i t. left.stored t i) in
        record {
          lawful = subst AreLawful (sym left_is) (more (left_of forgotten front) (fact_of second kept) left.lawful (subst (λ (st : ℕ → StableRound). IsLawful st (fact_of second kept)) (sym before) lawful));
          stored = λ t. ap (λ (l : List Fact). stored_by l t) left_is
              ∙ stored_more (left_of forgotten front) (fact_of second kept) t
              ∙ ap (λ (s : StableRound). with_fact (Some (fact_of second kept)) t s) (left.stored t)
              ∙ alike t (stored_by front t)
              ∙ ap (λ (s : StableRound). with_emptied (forgotten t) s) (sym (stored_more front (fact_of second what) t));
        }

    -- one more, of which nothing is left
    gone_more : (front : List Fact) (second : ℕ) (what : RoundFact) → AreLeft front → left_of_one forgotten (fact_of second what) ≡ []
        → ((t : ℕ) (s : StableRound) → with_emptied (forgotten t) s ≡ with_emptied (forgotten t) (with_fact (Some (fact_of second what)) t s))
        → AreLeft (front ++ fact_of second what ∷ [])
    gone_more front second what left same alike =
        let left_is : left_of forgotten (front ++ fact_of second what ∷ []) ≡ left_of forgotten front = left_then front (fact_of second what) ∙ ap (λ (l : List Fact). left_of forgotten front ++ l) same ∙ append-nil (left_of forgotten front) in
        record {
          lawful = subst AreLawful (sym left_is) left.lawful;
          stored = λ t. ap (λ (l : List Fact). stored_by l t) left_is
              ∙ left.stored t
              ∙ alike t (stored_by front t)
              ∙ ap (λ (s : StableRound). with_emptied (forgotten t) s) (sym (stored_more front (fact_of second what) t));
        }

    fact_more : (front : List Fact) (second : ℕ) (what : RoundFact) → AreLeft front → IsLawful (stored_by front) (fact_of second what) → AreLeft (front ++ fact_of second what ∷ [])
    fact_more front second what left lawful = by what lawful (forgotten second) refl
      where
        one_is : (other : RoundFact) (b : Bool) → forgotten second ≡ b → left_of_one forgotten (fact_of second other) ≡ (if b then what_is_left second other else fact_of second other ∷ [])
        one_is other b is = ap (λ (c : Bool). if c then what_is_left second other else fact_of second other ∷ []) is

        there : (t : ℕ) (b : Bool) → forgotten second ≡ b → (t == second) ≡ true → forgotten t ≡ b
        there t b is here = ap forgotten (eqb-true t second here) ∙ is

        closed_alike : (items fewer : List Entry) (b : Bool) → forgotten second ≡ b → ((s : StableRound) → with_what (Closed fewer) (with_emptied b s) ≡ with_emptied b (with_what (Closed items) s))
            → (t : ℕ) (s : StableRound) (here : Bool) → (t == second) ≡ here
            → (if here then with_what (Closed fewer) (with_emptied (forgotten t) s) else with_emptied (forgotten t) s) ≡ with_emptied (forgotten t) (if here then with_what (Closed items) s else s)
        closed_alike items fewer b is same t s true here =
            subst (λ (c : Bool). with_what (Closed fewer) (with_emptied c s) ≡ with_emptied c (with_what (Closed items) s)) (sym (there t b is here)) (same s)
        closed_alike items fewer b is same t s false here = refl

        answered_alike : (above : Above) → forgotten second ≡ false → (t : ℕ) (s : StableRound) (here : Bool) → (t == second) ≡ here
            → (if here then with_what (Answered above) (with_emptied (forgotten t) s) else with_emptied (forgotten t) s) ≡ with_emptied (forgotten t) (if here then with_what (Answered above) s else s)
        answered_alike above is t s true here =
            subst (λ (c : Bool). with_what (Answered above) (with_emptied c s) ≡ with_emptied c (with_what (Answered above) s)) (sym (there t false is here)) refl
        answered_alike above is t s false here = refl

        gone_alike : (above : Above) → forgotten second ≡ true → (t : ℕ) (s : StableRound) (here : Bool) → (t == second) ≡ here
            → with_emptied (forgotten t) s ≡ with_emptied (forgotten t) (if here then with_what (Answered above) s else s)
        gone_alike above is t s true here = subst (λ (c : Bool). with_emptied c s ≡ with_emptied c (with_what (Answered above) s)) (sym (there t true is here)) refl
        gone_alike above is t s false here = refl

        by : (other : RoundFact) → IsLawful (stored_by front) (fact_of second other) → (b : Bool) → forgotten second ≡ b → AreLeft (front ++ fact_of second other ∷ [])
        by (Closed items) good true is = kept_more front second (Closed items) (Closed []) left (one_is (Closed items) true is) (left_lawful (stored_by front) second (Closed items) good true is (Closed []) refl) (λ t s. closed_alike items [] true is (λ _. refl) t s (t == second) refl)
        by (Closed items) good false is = kept_more front second (Closed items) (Closed items) left (one_is (Closed items) false is) (left_lawful (stored_by front) second (Closed items) good false is (Closed items) refl) (λ t s. closed_alike items items false is (λ _. refl) t s (t == second) refl)
        by (Answered above) good true is = gone_more front second (Answered above) left (one_is (Answered above) true is) (λ t s. gone_alike above is t s (t == second) refl)
        by (Answered above) good false is = kept_more front second (Answered above) (Answered above) left (one_is (Answered above) false is) (left_lawful (stored_by front) second (Answered above) good false is (Answered above) refl) (λ t s. answered_alike above is t s (t == second) refl)

    all_left : (front rest : List Fact) → AreLeft front → AreLawful (front ++ rest) → AreLeft (front ++ rest)
    all_left front [] left lawful = subst AreLeft (sym (append-nil front)) left
    all_left front (fact ∷ rest) left lawful =
        subst AreLeft (append_assoc front (fact ∷ []) rest)
        (all_left (front ++ fact ∷ []) rest (fact_more front fact.second fact.what left (lawful_here front fact rest lawful)) (subst AreLawful (sym (append_assoc front (fact ∷ []) rest)) lawful))

    pub left_facts : (facts : List Fact) → AreLawful facts → AreLeft facts
    left_facts facts lawful = all_left [] facts none_left lawful
