-- The facts of the seconds that are kept are valid by themselves, and make the rounds that are kept.
use Rattle.std.proofs.Common.{◌≡◌, ◌∙◌, ℕ, Bool, true, false, List, [], ◌∷◌, ◌++◌, length, take, slice_get, Some, None, refl, sym, ap, subst, append_assoc}
use Rattle.std.specs.Prelude.{◌==◌, if◌then◌else◌, nat_le}
use Rattle.std.proofs.lemmas.Bool.{eqb-true, le-leb, lt-leb}
use Rattle.std.proofs.lemmas.List.{append-nil}
use Rattle.std.proofs.lemmas.Option.{none-some}
use Rattle.ksi_aggtree.specs.declared.entries.Entry.{Entry}
use Rattle.ksi_aggregator.specs.declared.fact.RoundFact.{RoundFact}
use Rattle.ksi_aggregator.specs.declared.fact.RoundFact.TheVariants.{Closed, Answered}
use Rattle.ksi_aggregator.specs.declared.fact.Fact.{Fact}
use Rattle.ksi_aggregator.specs.Facts.{StableRound, with_what, with_fact}
use Rattle.ksi_aggregator.specs.Issuing.{from_request}
use Rattle.ksi_aggregator.specs.Rounds.{AggregatorState, rounds_of, fact_of}
use Rattle.ksi_aggregator.specs.Restored.{restored, IsOfFacts}
use Rattle.ksi_aggregator.specs.Lawful.{fresh_stable, stored_by, closed_items, MayStore, IsLawful, AreLawful, AreApart}
use Rattle.ksi_laws_forgetting.specs.Horizon.{AreFrom, left_of, left_from}

-- the stable part of a round that is kept, or of one that is not
abbrev pub with_kept : Bool → StableRound → StableRound
with_kept true s = s
with_kept false s = fresh_stable

get_here : (done : List Fact) (fact : Fact) (others : List Fact) → slice_get (done ++ fact ∷ others) (length done) ≡ Some fact
get_here [] fact others = refl
get_here (d ∷ done) fact others = get_here done fact others

take_here : (done others : List Fact) → take (length done) (done ++ others) ≡ done
take_here [] others = refl
take_here (d ∷ done) others = ap (λ (fs : List Fact). d ∷ fs) (take_here done others)

lawful_here : (done : List Fact) (fact : Fact) (others : List Fact) → AreLawful (done ++ fact ∷ others) → IsLawful (stored_by done) fact
lawful_here done fact others are =
    subst (λ (l : List Fact). IsLawful (stored_by l) fact) (take_here done (fact ∷ others)) (are (length done) fact (get_here done fact others))

fewer_in : (b : Bool) (s : StableRound) (k : ℕ) (e : Entry) → slice_get (closed_items (with_kept b s)) k ≡ Some e → slice_get (closed_items s) k ≡ Some e
fewer_in true s k e at = at
fewer_in false s k e at = absurd (none-some e at)

module _ (kept : ℕ → Bool) where
  left_then : (front : List Fact) (fact : Fact) → left_of kept (front ++ fact ∷ []) ≡ left_of kept front ++ (if kept fact.second then fact ∷ [] else [])
  left_then [] fact = append-nil (if kept fact.second then fact ∷ [] else [])
  left_then (x ∷ front) fact =
      ap (λ (l : List Fact). (if kept x.second then x ∷ [] else []) ++ l) (left_then front fact)
      ∙ sym (append_assoc (if kept x.second then x ∷ [] else []) (left_of kept front) (if kept fact.second then fact ∷ [] else []))

  -- what is stored by the facts left
  abbrev seen : (ℕ → StableRound) → ℕ → StableRound
  seen stored t = with_kept (kept t) (stored t)

  -- a fact of a second that is kept is valid after the facts left
  closing_apart : (stored : ℕ → StableRound) (second : ℕ) (items : List Entry) → AreApart (λ t. closed_items (with_fact (Some (fact_of second (Closed items))) t (stored t)))
      → AreApart (λ t. closed_items (with_fact (Some (fact_of second (Closed items))) t (seen stored t)))
  closing_apart stored second items apart number t j u k x y at bt =
      apart number t j u k x y (by t (t == second) j (from_request number x) at) (by u (u == second) k (from_request number y) bt)
    where
      by : (t : ℕ) (here : Bool) (k : ℕ) (e : Entry) → slice_get (closed_items (if here then with_what (Closed items) (seen stored t) else seen stored t)) k ≡ Some e
          → slice_get (closed_items (if here then with_what (Closed items) (stored t) else stored t)) k ≡ Some e
      by t true k e at = at
      by t false k e at = fewer_in (kept t) (stored t) k e at

  kept_lawful : (stored : ℕ → StableRound) (second : ℕ) (what : RoundFact) → kept second ≡ true → IsLawful stored (fact_of second what) → IsLawful (seen stored) (fact_of second what)
  kept_lawful stored second (Closed items) is lawful = record {
    below = lawful.below;
    what = record {
      open_yet = subst (λ (b : Bool). (with_kept b (stored second)).closed ≡ None) (sym is) lawful.what.open_yet;
      added = lawful.what.added;
      apart = closing_apart stored second items lawful.what.apart;
    };
  }
  kept_lawful stored second (Answered above) is lawful = record {
    below = lawful.below;
    what = subst (λ (b : Bool). MayStore (λ (t : ℕ). with_kept b (stored t)) second (Answered above)) (sym is) lawful.what;
  }

  -- the facts left of some are valid, and this is stored by them
  pub record AreLeft (front : List Fact) : Type 0 where
    pub lawful : AreLawful (left_of kept front)
    pub stored : (t : ℕ) → stored_by (left_of kept front) t ≡ seen (stored_by front) t

  module _
      (none : AreLawful [])
      (more : (facts : List Fact) (fact : Fact) → AreLawful facts → IsLawful (stored_by facts) fact → AreLawful (facts ++ fact ∷ []))
      (stored_more : (facts : List Fact) (fact : Fact) (t : ℕ) → stored_by (facts ++ fact ∷ []) t ≡ with_fact (Some fact) t (stored_by facts t)) where
    none_left : AreLeft []
    none_left = record { lawful = none; stored = λ t. by (kept t) }
      where
        by : (b : Bool) → fresh_stable ≡ with_kept b fresh_stable
        by true = refl
        by false = refl

    fact_more : (front : List Fact) (fact : Fact) → AreLeft front → IsLawful (stored_by front) fact → AreLeft (front ++ fact ∷ [])
    fact_more front fact left lawful = by (kept fact.second) refl
      where
        there : (b : Bool) → kept fact.second ≡ b → left_of kept (front ++ fact ∷ []) ≡ left_of kept front ++ (if b then fact ∷ [] else [])
        there b is = left_then front fact ∙ ap (λ (c : Bool). left_of kept front ++ (if c then fact ∷ [] else [])) is

        -- the fact, after what is seen
        alike : kept fact.second ≡ true → (t : ℕ) (s : StableRound) (here : Bool) → (t == fact.second) ≡ here
            → (if here then with_what fact.what (with_kept (kept t) s) else with_kept (kept t) s) ≡ with_kept (kept t) (if here then with_what fact.what s else s)
        alike is t s true here = subst (λ (c : Bool). with_what fact.what (with_kept c s) ≡ with_kept c (with_what fact.what s)) (sym (ap kept (eqb-true t fact.second here) ∙ is)) refl
        alike is t s false here = refl

        gone_alike : kept fact.second ≡ false → (t : ℕ) (s : StableRound) (here : Bool) → (t == fact.second) ≡ here → with_kept (kept t) s ≡ with_kept (kept t) (if here then with_what fact.what s else s)
        gone_alike is t s true here = subst (λ (c : Bool). with_kept c s ≡ with_kept c (with_what fact.what s)) (sym (ap kept (eqb-true t fact.second here) ∙ is)) refl
        gone_alike is t s false here = refl

        by : (b : Bool) → kept fact.second ≡ b → AreLeft (front ++ fact ∷ [])
        by true is =
            let before : stored_by (left_of kept front) ≡ seen (stored_by front) = (λ i t. left.stored t i) in
            record {
              lawful = subst AreLawful (sym (there true is)) (more (left_of kept front) fact left.lawful
                  (subst (λ (st : ℕ → StableRound). IsLawful st fact) (sym before) (kept_lawful (stored_by front) fact.second fact.what is lawful)));
              stored = λ t. ap (λ (l : List Fact). stored_by l t) (there true is)
                  ∙ stored_more (left_of kept front) fact t
                  ∙ ap (λ (s : StableRound). with_fact (Some fact) t s) (left.stored t)
                  ∙ alike is t (stored_by front t) (t == fact.second) refl
                  ∙ ap (λ (s : StableRound). with_kept (kept t) s) (sym (stored_more front fact t));
            }
        by false is =
            let left_is : left_of kept (front ++ fact ∷ []) ≡ left_of kept front = there false is ∙ append-nil (left_of kept front) in
            record {
              lawful = subst AreLawful (sym left_is) left.lawful;
              stored = λ t. ap (λ (l : List Fact). stored_by l t) left_is
                  ∙ left.stored t
                  ∙ gone_alike is t (stored_by front t) (t == fact.second) refl
                  ∙ ap (λ (s : StableRound). with_kept (kept t) s) (sym (stored_more front fact t));
            }

    all_left : (front rest : List Fact) → AreLeft front → AreLawful (front ++ rest) → AreLeft (front ++ rest)
    all_left front [] left lawful = subst AreLeft (sym (append-nil front)) left
    all_left front (fact ∷ rest) left lawful =
        subst AreLeft (append_assoc front (fact ∷ []) rest)
        (all_left (front ++ fact ∷ []) rest (fact_more front fact left (lawful_here front fact rest lawful)) (subst AreLawful (sym (append_assoc front (fact ∷ []) rest)) lawful))

    pub left_facts : (facts : List Fact) → AreLawful facts → AreLeft facts
    left_facts facts lawful = all_left [] facts none_left lawful

pub rounds_left : (me before : ℕ) (facts : List Fact) (whole other : AggregatorState) → IsOfFacts me facts whole → IsOfFacts me (left_from before facts) other → AreLeft (nat_le before) facts
    → AreFrom before (rounds_of whole) (rounds_of other)
rounds_left me before facts whole other of of_left left = record {
  kept = λ t late. of_left.rounds t ∙ ap restored (left.stored t ∙ ap (λ (b : Bool). with_kept b (stored_by facts t)) (le-leb before t late)) ∙ sym (of.rounds t);
  gone = λ t early. of_left.rounds t ∙ ap restored (left.stored t ∙ ap (λ (b : Bool). with_kept b (stored_by facts t)) (lt-leb before t early));
}
