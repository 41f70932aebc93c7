-- What facts make of a round, one more after others, and what is restored of it.
use Rattle.std.proofs.Common.{◌≡◌, ◌∙◌, ℕ, zero, suc, ◌+◌, ◌<◌, ◌≤◌, Bool, true, false, List, [], ◌∷◌, ◌++◌, length, take, slice_get, Option, Some, None, refl, sym, ap, subst, arith, inl, inr}
use Rattle.std.specs.Prelude.{◌==◌, if◌then◌else◌, unwrap_or}
use Rattle.std.proofs.lemmas.Bool.{cond_both, cases_lt, eqb-true}
use Rattle.std.proofs.lemmas.Option.{none-some}
use Rattle.ksi_aggtree.specs.declared.entries.Entry.{Entry}
use Rattle.ksi_aggregator.specs.declared.fact.RoundFact.{RoundFact}
use Rattle.ksi_aggregator.specs.declared.fact.RoundFact.TheVariants.{Closed, Answered}
use Rattle.ksi_aggregator.specs.declared.fact.Fact.{Fact}
use Rattle.ksi_aggregator.specs.Facts.{StableRound, stable_round, with_what, with_fact}
use Rattle.ksi_aggregator.specs.Rows.{RoundState, fresh_round}
use Rattle.ksi_aggregator.specs.Rounds.{AggregatorState, rounds_of, ChangesOnly}
use Rattle.ksi_aggregator.specs.Issuing.{from_request}
use Rattle.ksi_aggregator.specs.Lawful.{fresh_stable, stored_on, stored_by, with_new, closed_items, MayStore, IsLawful, AreLawful, AreApart}
use Rattle.ksi_aggregator.specs.Restored.{restored, IsOfFacts}

-- ONE FACT MORE

stored_on-append : (second : ℕ) (s : StableRound) (facts more : List Fact) → stored_on second s (facts ++ more) ≡ stored_on second (stored_on second s facts) more
stored_on-append second s [] more = refl
stored_on-append second s (fact ∷ facts) more = stored_on-append second (with_fact (Some fact) second s) facts more

pub one_more : (facts : List Fact) (fact : Fact) (second : ℕ) → stored_by (facts ++ fact ∷ []) second ≡ with_fact (Some fact) second (stored_by facts second)
one_more facts fact second = stored_on-append second fresh_stable facts (fact ∷ [])

pub some_more : (facts : List Fact) (fact : Option Fact) (second : ℕ) → stored_by (with_new facts fact) second ≡ with_fact fact second (stored_by facts second)
some_more facts None second = refl
some_more facts (Some fact) second = one_more facts fact second

-- WHAT IS RESTORED

pub none_of_facts : (me : ℕ) (a : AggregatorState) → a.me ≡ me → ((t : ℕ) → rounds_of a t ≡ fresh_round) → IsOfFacts me [] a
none_of_facts me a mine fresh = record { mine = mine; rounds = fresh }

pub next_of_facts : (me : ℕ) (facts : List Fact) (fact : Fact) (old new : AggregatorState) → IsOfFacts me facts old → new.me ≡ old.me →
    ChangesOnly (rounds_of old) (rounds_of new) fact.second (restored (with_what fact.what (stable_round (rounds_of old fact.second)))) → IsOfFacts me (facts ++ fact ∷ []) new
next_of_facts me facts fact old new are mine changes = record {
  mine = mine ∙ are.mine;
  rounds = λ t. changes t ∙ by t (t == fact.second) refl ∙ ap restored (sym (one_more facts fact t));
}
  where
    by : (t : ℕ) (here : Bool) → (t == fact.second) ≡ here → (if here then restored (with_what fact.what (stable_round (rounds_of old fact.second))) else rounds_of old t)
        ≡ restored (if here then with_what fact.what (stored_by facts t) else stored_by facts t)
    by t true same = ap (λ (u : ℕ). restored (with_what fact.what (stable_round (rounds_of old u)))) (sym (eqb-true t fact.second same))
        ∙ ap (λ (r : RoundState). restored (with_what fact.what (stable_round r))) (are.rounds t)
    by t false other = are.rounds t

-- what is stable of it is what the facts make
pub stable_is : (me : ℕ) (facts : List Fact) (a : AggregatorState) → IsOfFacts me facts a → (t : ℕ) → stable_round (rounds_of a t) ≡ stored_by facts t
stable_is me facts a are t = ap stable_round (are.rounds t)

-- LAWFUL FACTS

get_within : (xs ys : List Fact) (k : ℕ) → k < length xs → slice_get (xs ++ ys) k ≡ slice_get xs k
get_within [] ys k lt = absurd (omega arith)
get_within (x ∷ xs) ys zero lt = refl
get_within (x ∷ xs) ys (suc k) lt = get_within xs ys k (omega arith)

get_behind : (xs : List Fact) (y : Fact) (k : ℕ) (fact : Fact) → length xs ≤ k → slice_get (xs ++ y ∷ []) k ≡ Some fact → (k ≡ length xs) × (fact ≡ y)
get_behind [] y zero fact le is = (refl, cc is)
get_behind [] y (suc k) fact le is = absurd (cc is)
get_behind (x ∷ xs) y zero fact le is = absurd (omega arith)
get_behind (x ∷ xs) y (suc k) fact le is = let both : (k ≡ length xs) × (fact ≡ y) = get_behind xs y k fact (omega arith) is in (ap suc both.0, both.1)

get_last : (xs : List Fact) (y : Fact) → slice_get (xs ++ y ∷ []) (length xs) ≡ Some y
get_last [] y = refl
get_last (x ∷ xs) y = get_last xs y

take_within : (xs ys : List Fact) (k : ℕ) → k ≤ length xs → take k (xs ++ ys) ≡ take k xs
take_within xs ys zero le = refl
take_within [] ys (suc k) le = absurd (omega arith)
take_within (x ∷ xs) ys (suc k) le = ap (λ (fs : List Fact). x ∷ fs) (take_within xs ys k (omega arith))

take_whole : (xs : List Fact) → take (length xs) xs ≡ xs
take_whole [] = refl
take_whole (x ∷ xs) = ap (λ (fs : List Fact). x ∷ fs) (take_whole xs)

module _ (facts : List Fact) (fact : Fact) where
  pub more_lawful : AreLawful facts → IsLawful (stored_by facts) fact → AreLawful (facts ++ fact ∷ [])
  more_lawful are lawful k f is = elim (cases_lt k (length facts)) [
    | inl before ↦
        subst (λ (fs : List Fact). IsLawful (stored_by fs) f) (sym (take_within facts (fact ∷ []) k (omega arith)))
        (are k f (sym (get_within facts (fact ∷ []) k before) ∙ is))
    | inr behind ↦
        let both : (k ≡ length facts) × (f ≡ fact) = get_behind facts fact k f behind is in
        let front : take k (facts ++ fact ∷ []) ≡ facts = take_within facts (fact ∷ []) k (omega (arith, both.0)) ∙ ap (λ (n : ℕ). take n facts) both.0 ∙ take_whole facts in
        subst (λ (fs : List Fact). IsLawful (stored_by fs) f) (sym front)
        (subst (λ (g : Fact). IsLawful (stored_by facts) g) (sym both.1) lawful)
  ]

  pub lawful_before : AreLawful (facts ++ fact ∷ []) → AreLawful facts
  lawful_before are k f is = elim (cases_lt k (length facts)) [
    | inl before ↦
        subst (λ (fs : List Fact). IsLawful (stored_by fs) f) (take_within facts (fact ∷ []) k (omega arith))
        (are k f (get_within facts (fact ∷ []) k before ∙ is))
    | inr behind ↦ absurd (none facts k behind is)
  ]
    where
      none : (xs : List Fact) (n : ℕ) → length xs ≤ n → slice_get xs n ≡ Some f → ⊥
      none [] n le is = cc is
      none (x ∷ xs) zero le is = omega arith
      none (x ∷ xs) (suc n) le is = none xs n (omega arith) is

  pub last_lawful : AreLawful (facts ++ fact ∷ []) → IsLawful (stored_by facts) fact
  last_lawful are =
      subst (λ (fs : List Fact). IsLawful (stored_by fs) fact) (take_within facts (fact ∷ []) (length facts) (omega arith) ∙ take_whole facts)
      (are (length facts) fact (get_last facts fact))

-- WHAT LAWFUL FACTS LEAVE

-- no number stands twice, and no response is kept before its round is closed
pub record IsGood (stored : ℕ → StableRound) : Type 0 where
  pub apart : AreApart (λ t. closed_items (stored t))
  pub last : (t : ℕ) → (stored t).closed ≡ None → (stored t).answered ≡ None

good_none : IsGood (stored_by [])
good_none = record { apart = λ number t j u k x y at bt. absurd (none-some (from_request number x) at); last = λ t is. refl }

good_more : (stored : ℕ → StableRound) (fact : Fact) → IsLawful stored fact → IsGood stored → IsGood (λ t. with_fact (Some fact) t (stored t))
good_more stored fact lawful good = by fact.what lawful.what
  where
    by : (what : RoundFact) → MayStore stored fact.second what → IsGood (λ t. if t == fact.second then with_what what (stored t) else stored t)
    by (Closed entries) may = record {
      apart = may.apart;
      last = λ t. cond_both (t == fact.second) (with_what (Closed entries) (stored t)) (stored t) (λ (s : StableRound). s.closed ≡ None → s.answered ≡ None) (λ _ is. absurd (none-some entries (sym is))) (λ _. good.last t);
    }
    by (Answered above) may = record {
      apart = λ number t j u k x y at bt. good.apart number t j u k x y (subst (λ (items : List Entry). slice_get items j ≡ Some (from_request number x)) (same t) at) (subst (λ (items : List Entry). slice_get items k ≡ Some (from_request number y)) (same u) bt);
      last = λ t. later t (t == fact.second) refl;
    }
      where
        same : (t : ℕ) → closed_items (if t == fact.second then with_what (Answered above) (stored t) else stored t) ≡ closed_items (stored t)
        same t = cond_both (t == fact.second) (with_what (Answered above) (stored t)) (stored t) (λ (s : StableRound). closed_items s ≡ closed_items (stored t)) (λ _. refl) (λ _. refl)

        later : (t : ℕ) (b : Bool) → (t == fact.second) ≡ b → (if b then with_what (Answered above) (stored t) else stored t).closed ≡ None → (if b then with_what (Answered above) (stored t) else stored t).answered ≡ None
        later t true here is = absurd (none-some may.entries (sym is ∙ ap (λ (u : ℕ). (stored u).closed) (eqb-true t fact.second here) ∙ may.closed))
        later t false other is = good.last t is

take_next_fact : (xs : List Fact) (n : ℕ) (fact : Fact) → slice_get xs n ≡ Some fact → take (suc n) xs ≡ take n xs ++ fact ∷ []
take_next_fact [] n fact is = absurd (cc is)
take_next_fact (x ∷ xs) zero fact is = ap (λ (f : Fact). f ∷ []) (cc is)
take_next_fact (x ∷ xs) (suc n) fact is = ap (λ (fs : List Fact). x ∷ fs) (take_next_fact xs n fact is)

take_past : (xs : List Fact) (n : ℕ) → slice_get xs n ≡ None → take (suc n) xs ≡ take n xs
take_past [] zero is = refl
take_past [] (suc n) is = refl
take_past (x ∷ xs) zero is = absurd (cc is)
take_past (x ∷ xs) (suc n) is = ap (λ (fs : List Fact). x ∷ fs) (take_past xs n is)

good_first : (facts : List Fact) → AreLawful facts → (k : ℕ) → IsGood (stored_by (take k facts))
good_first facts are zero = good_none
good_first facts are (suc k) = by (slice_get facts k) refl (good_first facts are k)
  where
    by : (o : Option Fact) → slice_get facts k ≡ o → IsGood (stored_by (take k facts)) → IsGood (stored_by (take (suc k) facts))
    by None is good = subst (λ (fs : List Fact). IsGood (stored_by fs)) (sym (take_past facts k is)) good
    by (Some fact) is good =
        let next : stored_by (take k facts ++ fact ∷ []) ≡ (λ t. with_fact (Some fact) t (stored_by (take k facts) t)) = (λ i t. one_more (take k facts) fact t i) in
        subst (λ (fs : List Fact). IsGood (stored_by fs)) (sym (take_next_fact facts k fact is))
        (subst IsGood (sym next) (good_more (stored_by (take k facts)) fact (are k fact is) good))

pub good_of : (facts : List Fact) → AreLawful facts → IsGood (stored_by facts)
good_of facts are = subst (λ (fs : List Fact). IsGood (stored_by fs)) (take_whole facts) (good_first facts are (length facts))
