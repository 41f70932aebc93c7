-- What facts make of a second, one more after others, and what is restored of it.
use Rattle.std.proofs.Common.{◌≡◌, ◌∙◌, ℕ, zero, suc, ◌+◌, ◌<◌, ◌≤◌, ◌^◌, Bool, true, false, List, [], ◌∷◌, ◌++◌, length, take, slice_get, Option, Some, None, refl, sym, ap, subst, arith, inl, inr, add-one}
use Rattle.std.specs.Prelude.{◌==◌, if◌then◌else◌}
use Rattle.std.proofs.lemmas.Bool.{cond_both, cases_lt, eqb-true}
use Rattle.ksi_synod.specs.CorePlans.{CorePlanState, voters_of}
use Rattle.ksi_synod.specs.VoteState.{fresh_vote}
use Rattle.ksi_corenode.specs.declared.fact.What.{What}
use Rattle.ksi_corenode.specs.declared.fact.What.TheVariants.{Sealed, Tried, Promised, Cast, Holds}
use Rattle.ksi_corenode.specs.declared.fact.Fact.{Fact}
use Rattle.ksi_corenode.specs.SecondState.{SecondState, fresh_second}
use Rattle.ksi_corenode.specs.Facts.{StableState, stable_state, with_what, with_fact}
use Rattle.ksi_corenode.specs.Lawful.{fresh_state, stored_on, stored_by, with_new, MayStore, IsLawful, AreLawful}
use Rattle.ksi_corenode.specs.Restored.{restored, second_with, IsOfFacts}
use Rattle.ksi_corenode.specs.CoreState.{CoreState, state_of, IsChange}

-- ONE FACT MORE

stored_on-append : (second : ℕ) (s : StableState) (facts more : List Fact) → stored_on second s (facts ++ more) ≡ stored_on second (stored_on second s facts) more
stored_on-append second s [] more = refl
stored_on-append second s (fact ∷ facts) more = stored_on-append second (with_fact (Some fact) second s) facts more

pub one_more : (facts : List Fact) (fact : Fact) (second : ℕ) → stored_by (facts ++ fact ∷ []) second ≡ with_fact (Some fact) second (stored_by facts second)
one_more facts fact second = stored_on-append second fresh_state facts (fact ∷ [])

pub some_more : (facts : List Fact) (fact : Option Fact) (second : ℕ) → stored_by (with_new facts fact) second ≡ with_fact fact second (stored_by facts second)
some_more facts None second = refl
some_more facts (Some fact) second = one_more facts fact second

-- WHAT IS RESTORED

pub restored_with : (image : List ℕ → List ℕ) (me : ℕ) (voters : List ℕ) (what : What) (s : StableState) → restored image me voters (with_what what s) ≡ second_with image what (restored image me voters s)
unfolding restored
restored_with image me voters (Sealed items) s = refl
restored_with image me voters (Tried ballot) s = refl
restored_with image me voters (Promised ballot) s = refl
restored_with image me voters (Cast vote) s = refl
restored_with image me voters (Holds root) s = refl

pub none_of_facts : (image : List ℕ → List ℕ) (me : ℕ) (plan : CorePlanState) (core : CoreState) → core.me ≡ me → core.plan ≡ plan → core.start ≡ plan.start →
    ((t : ℕ) → state_of core t ≡ fresh_second me plan t) → IsOfFacts image me plan [] core
unfolding restored fresh_second fresh_vote
none_of_facts image me plan core mine planned begins fresh = record { mine = mine; planned = planned; begins = begins; seconds = fresh }

pub next_of_facts : (image : List ℕ → List ℕ) (me : ℕ) (plan : CorePlanState) (facts : List Fact) (fact : Fact) (old new : CoreState) → IsOfFacts image me plan facts old →
    IsChange old new fact.second (second_with image fact.what (state_of old fact.second)) → IsOfFacts image me plan (facts ++ fact ∷ []) new
next_of_facts image me plan facts fact old new are change = record {
  mine = change.me ∙ are.mine;
  planned = change.plan ∙ are.planned;
  begins = change.start ∙ are.begins;
  seconds = λ t. change.seconds t ∙ by t (t == fact.second) refl ∙ ap (λ (s : StableState). restored image me (voters_of plan t) s) (sym (one_more facts fact t));
}
  where
    by : (t : ℕ) (here : Bool) → (t == fact.second) ≡ here → (if here then second_with image fact.what (state_of old fact.second) else state_of old t)
        ≡ restored image me (voters_of plan t) (if here then with_what fact.what (stored_by facts t) else stored_by facts t)
    by t true same = ap (λ (u : ℕ). second_with image fact.what (state_of old u)) (sym (eqb-true t fact.second same))
        ∙ ap (λ (s : SecondState). second_with image fact.what s) (are.seconds t)
        ∙ sym (restored_with image me (voters_of plan t) fact.what (stored_by facts t))
    by t false other = are.seconds t

-- what is stable of it is what the facts make
pub stable_is : (image : List ℕ → List ℕ) (me : ℕ) (plan : CorePlanState) (facts : List Fact) (core : CoreState) → IsOfFacts image me plan facts core → (t : ℕ) → stable_state (state_of core t) ≡ stored_by facts t
unfolding restored
stable_is image me plan facts core are t = ap stable_state (are.seconds t)

-- a fact that is lawful after others is so in the core of these
pub lawful_there : (image : List ℕ → List ℕ) (me : ℕ) (plan : CorePlanState) (facts : List Fact) (fact : Fact) (core : CoreState) → IsOfFacts image me plan facts core →
    IsLawful plan.cores plan.start (stored_by facts fact.second) fact → IsLawful core.plan.cores core.start (stable_state (state_of core fact.second)) fact
lawful_there image me plan facts fact core are lawful =
    subst (λ (p : CorePlanState). IsLawful p.cores core.start (stable_state (state_of core fact.second)) fact) (sym are.planned)
    (subst (λ (n : ℕ). IsLawful plan.cores n (stable_state (state_of core fact.second)) fact) (sym are.begins)
    (subst (λ (s : StableState). IsLawful plan.cores plan.start s fact) (sym (stable_is image me plan facts core are fact.second)) lawful))

-- LAWFUL FACTS

get_within : (xs ys : List Fact) (k : ℕ) → k < length xs → slice_get (xs ++ ys) k ≡ slice_get xs k
get_within [] ys k lt = absurd (omega arith)
get_within (x ∷ xs) ys zero lt = refl
get_within (x ∷ xs) ys (suc k) lt = get_within xs ys k (omega arith)

get_behind : (xs : List Fact) (y : Fact) (k : ℕ) (fact : Fact) → length xs ≤ k → slice_get (xs ++ y ∷ []) k ≡ Some fact → (k ≡ length xs) × (fact ≡ y)
get_behind [] y zero fact le is = (refl, cc is)
get_behind [] y (suc k) fact le is = absurd (cc is)
get_behind (x ∷ xs) y zero fact le is = absurd (omega arith)
get_behind (x ∷ xs) y (suc k) fact le is = let both : (k ≡ length xs) × (fact ≡ y) = get_behind xs y k fact (omega arith) is in (ap suc both.0, both.1)

get_last : (xs : List Fact) (y : Fact) → slice_get (xs ++ y ∷ []) (length xs) ≡ Some y
get_last [] y = refl
get_last (x ∷ xs) y = get_last xs y

take_within : (xs ys : List Fact) (k : ℕ) → k ≤ length xs → take k (xs ++ ys) ≡ take k xs
take_within xs ys zero le = refl
take_within [] ys (suc k) le = absurd (omega arith)
take_within (x ∷ xs) ys (suc k) le = ap (λ (fs : List Fact). x ∷ fs) (take_within xs ys k (omega arith))

take_whole : (xs : List Fact) → take (length xs) xs ≡ xs
take_whole [] = refl
take_whole (x ∷ xs) = ap (λ (fs : List Fact). x ∷ fs) (take_whole xs)

module _ (cores start : ℕ) (facts : List Fact) (fact : Fact) where
  pub more_lawful : AreLawful cores start facts → IsLawful cores start (stored_by facts fact.second) fact → AreLawful cores start (facts ++ fact ∷ [])
  more_lawful are lawful k f is = elim (cases_lt k (length facts)) [
    | inl before ↦
        subst (λ (fs : List Fact). IsLawful cores start (stored_by fs f.second) f) (sym (take_within facts (fact ∷ []) k (omega arith)))
        (are k f (sym (get_within facts (fact ∷ []) k before) ∙ is))
    | inr behind ↦
        let both : (k ≡ length facts) × (f ≡ fact) = get_behind facts fact k f behind is in
        let front : take k (facts ++ fact ∷ []) ≡ facts = take_within facts (fact ∷ []) k (omega (arith, both.0)) ∙ ap (λ (n : ℕ). take n facts) both.0 ∙ take_whole facts in
        subst (λ (fs : List Fact). IsLawful cores start (stored_by fs f.second) f) (sym front)
        (subst (λ (g : Fact). IsLawful cores start (stored_by facts g.second) g) (sym both.1) lawful)
  ]

  pub lawful_before : AreLawful cores start (facts ++ fact ∷ []) → AreLawful cores start facts
  lawful_before are k f is = elim (cases_lt k (length facts)) [
    | inl before ↦
        subst (λ (fs : List Fact). IsLawful cores start (stored_by fs f.second) f) (take_within facts (fact ∷ []) k (omega arith))
        (are k f (get_within facts (fact ∷ []) k before ∙ is))
    | inr behind ↦ absurd (none facts k behind is)
  ]
    where
      none : (xs : List Fact) (n : ℕ) → length xs ≤ n → slice_get xs n ≡ Some f → ⊥
      none [] n le is = cc is
      none (x ∷ xs) zero le is = omega arith
      none (x ∷ xs) (suc n) le is = none xs n (omega arith) is

  pub last_lawful : AreLawful cores start (facts ++ fact ∷ []) → IsLawful cores start (stored_by facts fact.second) fact
  last_lawful are =
      subst (λ (fs : List Fact). IsLawful cores start (stored_by fs fact.second) fact) (take_within facts (fact ∷ []) (length facts) (omega arith) ∙ take_whole facts)
      (are (length facts) fact (get_last facts fact))

-- WHAT LAWFUL FACTS LEAVE

-- ballots in their range
pub record InRange (s : StableState) : Type 0 where
  pub tried : s.tried < 2 ^ 36
  pub promised : s.promised < 2 ^ 36

range_kept : (s : StableState) (what : What) → MayStore s what → InRange s → InRange (with_what what s)
range_kept s (Sealed items) may range = record { tried = range.tried; promised = range.promised }
range_kept s (Tried ballot) may range = record { tried = may.2.1; promised = range.promised }
range_kept s (Promised ballot) may range = record { tried = range.tried; promised = may.1.1 }
range_kept s (Cast vote) may range = record { tried = range.tried; promised = range.promised }
range_kept s (Holds root) may range = record { tried = range.tried; promised = range.promised }

-- the first facts, and one more, where there is one
take_next_fact : (xs : List Fact) (n : ℕ) (fact : Fact) → slice_get xs n ≡ Some fact → take (suc n) xs ≡ take n xs ++ fact ∷ []
take_next_fact [] n fact is = absurd (cc is)
take_next_fact (x ∷ xs) zero fact is = ap (λ (f : Fact). f ∷ []) (cc is)
take_next_fact (x ∷ xs) (suc n) fact is = ap (λ (fs : List Fact). x ∷ fs) (take_next_fact xs n fact is)

take_past : (xs : List Fact) (n : ℕ) → slice_get xs n ≡ None → take (suc n) xs ≡ take n xs
take_past [] zero is = refl
take_past [] (suc n) is = refl
take_past (x ∷ xs) zero is = absurd (cc is)
take_past (x ∷ xs) (suc n) is = ap (λ (fs : List Fact). x ∷ fs) (take_past xs n is)

range_next : (cores start t : ℕ) (facts : List Fact) → AreLawful cores start facts → (k : ℕ) → InRange (stored_by (take k facts) t) → InRange (stored_by (take (suc k) facts) t)
range_next cores start t facts are k before = by (slice_get facts k) refl
  where
    by : (o : Option Fact) → slice_get facts k ≡ o → InRange (stored_by (take (suc k) facts) t)
    by None is = subst (λ (fs : List Fact). InRange (stored_by fs t)) (sym (take_past facts k is)) before
    by (Some fact) is =
        subst (λ (fs : List Fact). InRange (stored_by fs t)) (sym (take_next_fact facts k fact is))
        (subst InRange (sym (one_more (take k facts) fact t))
        (cond_both (t == fact.second) (with_what fact.what (stored_by (take k facts) t)) (stored_by (take k facts) t) InRange
        (λ same. range_kept (stored_by (take k facts) t) fact.what
        (subst (λ (u : ℕ). MayStore (stored_by (take k facts) u) fact.what) (sym (eqb-true t fact.second same)) (are k fact is).what) before)
        (λ _. before)))

range_along : (cores start t : ℕ) (facts : List Fact) → AreLawful cores start facts → (k : ℕ) → InRange (stored_by (take k facts) t)
range_along cores start t facts are zero = record { tried = omega arith; promised = omega arith }
range_along cores start t facts are (suc k) = range_next cores start t facts are k (range_along cores start t facts are k)

pub range_of : (cores start t : ℕ) (facts : List Fact) → AreLawful cores start facts → InRange (stored_by facts t)
range_of cores start t facts are = subst (λ (fs : List Fact). InRange (stored_by fs t)) (take_whole facts) (range_along cores start t facts are (length facts))

-- THE FIRST SO MANY FACTS

-- a core of the first facts that stores the next one
pub next_stored : (image : List ℕ → List ℕ) (me : ℕ) (plan : CorePlanState) (facts : List Fact) (k : ℕ) (fact : Fact) (old new : CoreState) → slice_get facts k ≡ Some fact → IsOfFacts image me plan (take k facts) old →
    IsChange old new fact.second (second_with image fact.what (state_of old fact.second)) → IsOfFacts image me plan (take (k + 1) facts) new
next_stored image me plan facts k fact old new is are change =
    subst (λ (fs : List Fact). IsOfFacts image me plan fs new) (sym (ap (λ (n : ℕ). take n facts) (add-one k) ∙ take_next_fact facts k fact is))
    (next_of_facts image me plan (take k facts) fact old new are change)
