-- The facts left of valid facts are valid, and the seconds that they make.
use Rattle.std.proofs.Common.{◌≡◌, ◌∙◌, ◌⊎◌, ℕ, ◌<◌, Bool, true, false, List, [], ◌∷◌, ◌++◌, length, take, slice_get, Option, Some, None, refl, sym, ap, subst, inl, inr, append_assoc}
use Rattle.std.specs.Prelude.{◌==◌, if◌then◌else◌, nat_lt, is_some}
use Rattle.std.proofs.lemmas.Bool.{and_parts, and_from, eqb-true, lt-ltb}
use Rattle.std.proofs.lemmas.List.{append-nil}
use Rattle.ksi_synod.specs.CorePlans.{CorePlanState, voters_of}
use Rattle.ksi_corenode.specs.declared.fact.What.{What}
use Rattle.ksi_corenode.specs.declared.fact.What.TheVariants.{Sealed, Tried, Promised, Cast, Holds}
use Rattle.ksi_corenode.specs.declared.fact.Fact.{Fact}
use Rattle.ksi_corenode.specs.SecondState.{SecondState}
use Rattle.ksi_corenode.specs.Facts.{StableState, fact_of, with_what, with_fact, stable_state}
use Rattle.ksi_corenode.specs.Lawful.{fresh_state, stored_by, MayStore, IsLawful, AreLawful}
use Rattle.ksi_corenode.specs.Restored.{restored, IsWell, HasFacts}
use Rattle.ksi_corenode.specs.Stored.{second_of}
use Rattle.ksi_corenode.specs.Rows.{restart_row}
use Rattle.ksi_corenode.specs.CoreState.{CoreState, state_of}
use Rattle.ksi_laws_forgetting.specs.Forgotten.{bare_second, IsGone, IsSecondOf, AreForgotten, AreForgottenAt}
use Rattle.ksi_laws_forgetting.specs.Left.{root_left, left_of_one, left_of, is_forgotten}

-- the stable part of a forgotten second: its root
abbrev pub emptied : StableState → StableState
emptied s = record { sealed = None; tried = 0; promised = 0; vote = None; held = s.held }

abbrev pub with_emptied : Bool → StableState → StableState
with_emptied true s = emptied s
with_emptied false s = s

-- FACTS BEHIND OTHERS

get_here : (done : List Fact) (fact : Fact) (others : List Fact) → slice_get (done ++ fact ∷ others) (length done) ≡ Some fact
get_here [] fact others = refl
get_here (d ∷ done) fact others = get_here done fact others

take_here : (done others : List Fact) → take (length done) (done ++ others) ≡ done
take_here [] others = refl
take_here (d ∷ done) others = ap (λ (fs : List Fact). d ∷ fs) (take_here done others)

pub left_then : (forgotten : ℕ → Bool) (front : List Fact) (fact : Fact) → left_of forgotten (front ++ fact ∷ []) ≡ left_of forgotten front ++ left_of_one forgotten fact
left_then forgotten [] fact = append-nil (left_of_one forgotten fact)
left_then forgotten (x ∷ front) fact =
    ap (λ (l : List Fact). left_of_one forgotten x ++ l) (left_then forgotten front fact)
    ∙ sym (append_assoc (left_of_one forgotten x) (left_of forgotten front) (left_of_one forgotten fact))

module _ (cores start : ℕ) (forgotten : ℕ → Bool) where
  lawful_here : (done : List Fact) (fact : Fact) (others : List Fact) → AreLawful cores start (done ++ fact ∷ others) → IsLawful cores start (stored_by done fact.second) fact
  lawful_here done fact others are =
      subst (λ (l : List Fact). IsLawful cores start (stored_by l fact.second) fact) (take_here done (fact ∷ others)) (are (length done) fact (get_here done fact others))

  -- the facts left of some are lawful, and this is stored by them
  pub record AreLeft (front : List Fact) : Type 0 where
    pub lawful : AreLawful cores start (left_of forgotten front)
    pub stored : (t : ℕ) → stored_by (left_of forgotten front) t ≡ with_emptied (forgotten t) (stored_by front t)

  module _
      (none : AreLawful cores start [])
      (more : (facts : List Fact) (fact : Fact) → AreLawful cores start facts → IsLawful cores start (stored_by facts fact.second) fact → AreLawful cores start (facts ++ fact ∷ []))
      (stored_more : (facts : List Fact) (fact : Fact) (t : ℕ) → stored_by (facts ++ fact ∷ []) t ≡ with_fact (Some fact) t (stored_by facts t)) where
    none_left : AreLeft []
    none_left = record { lawful = none; stored = λ t. by (forgotten t) }
      where
        by : (b : Bool) → fresh_state ≡ with_emptied b fresh_state
        by true = refl
        by false = refl

    -- one fact more, which stays
    kept_more : (front : List Fact) (fact : Fact) → AreLeft front → left_of_one forgotten fact ≡ fact ∷ [] → IsLawful cores start (with_emptied (forgotten fact.second) (stored_by front fact.second)) fact
        → ((t : ℕ) (s : StableState) → with_fact (Some fact) t (with_emptied (forgotten t) s) ≡ with_emptied (forgotten t) (with_fact (Some fact) t s))
        → AreLeft (front ++ fact ∷ [])
    kept_more front fact left same lawful alike =
        let left_is : left_of forgotten (front ++ fact ∷ []) ≡ left_of forgotten front ++ fact ∷ [] = left_then forgotten front fact ∙ ap (λ (l : List Fact). left_of forgotten front ++ l) same in
        record {
          lawful = subst (λ (l : List Fact). AreLawful cores start l) (sym left_is)
              (more (left_of forgotten front) fact left.lawful (subst (λ (s : StableState). IsLawful cores start s fact) (sym (left.stored fact.second)) lawful));
          stored = λ t. ap (λ (l : List Fact). stored_by l t) left_is
              ∙ stored_more (left_of forgotten front) fact t
              ∙ ap (λ (s : StableState). with_fact (Some fact) t s) (left.stored t)
              ∙ alike t (stored_by front t)
              ∙ ap (λ (s : StableState). with_emptied (forgotten t) s) (sym (stored_more front fact t));
        }

    -- one more, which goes
    gone_more : (front : List Fact) (fact : Fact) → AreLeft front → left_of_one forgotten fact ≡ []
        → ((t : ℕ) (s : StableState) → with_emptied (forgotten t) s ≡ with_emptied (forgotten t) (with_fact (Some fact) t s))
        → AreLeft (front ++ fact ∷ [])
    gone_more front fact left same alike =
        let left_is : left_of forgotten (front ++ fact ∷ []) ≡ left_of forgotten front = left_then forgotten front fact ∙ ap (λ (l : List Fact). left_of forgotten front ++ l) same ∙ append-nil (left_of forgotten front) in
        record {
          lawful = subst (λ (l : List Fact). AreLawful cores start l) (sym left_is) left.lawful;
          stored = λ t. ap (λ (l : List Fact). stored_by l t) left_is
              ∙ left.stored t
              ∙ alike t (stored_by front t)
              ∙ ap (λ (s : StableState). with_emptied (forgotten t) s) (sym (stored_more front fact t));
        }

    fact_more : (front : List Fact) (second : ℕ) (what : What) → AreLeft front → IsLawful cores start (stored_by front second) (fact_of second what) → AreLeft (front ++ fact_of second what ∷ [])
    fact_more front second what left lawful = by (forgotten second) refl
      where
        one_is : (b : Bool) → forgotten second ≡ b → left_of_one forgotten (fact_of second what) ≡ (if b then root_left second what else fact_of second what ∷ [])
        one_is b is = ap (λ (c : Bool). if c then root_left second what else fact_of second what ∷ []) is

        there : (t : ℕ) (b : Bool) → forgotten second ≡ b → (t == second) ≡ true → forgotten t ≡ b
        there t b is here = ap forgotten (eqb-true t second here) ∙ is

        -- it says the same behind what is left
        alike : (b : Bool) → forgotten second ≡ b → ((s : StableState) → with_what what (with_emptied b s) ≡ with_emptied b (with_what what s))
            → (t : ℕ) (s : StableState) (here : Bool) → (t == second) ≡ here
            → (if here then with_what what (with_emptied (forgotten t) s) else with_emptied (forgotten t) s) ≡ with_emptied (forgotten t) (if here then with_what what s else s)
        alike b is same t s true here = subst (λ (c : Bool). with_what what (with_emptied c s) ≡ with_emptied c (with_what what s)) (sym (there t b is here)) (same s)
        alike b is same t s false here = refl

        gone_alike : forgotten second ≡ true → ((s : StableState) → emptied s ≡ emptied (with_what what s)) → (t : ℕ) (s : StableState) (here : Bool) → (t == second) ≡ here
            → with_emptied (forgotten t) s ≡ with_emptied (forgotten t) (if here then with_what what s else s)
        gone_alike is same t s true here = subst (λ (c : Bool). with_emptied c s ≡ with_emptied c (with_what what s)) (sym (there t true is here)) (same s)
        gone_alike is same t s false here = refl

        goes : forgotten second ≡ true → root_left second what ≡ [] → ((s : StableState) → emptied s ≡ emptied (with_what what s)) → AreLeft (front ++ fact_of second what ∷ [])
        goes is none_of same = gone_more front (fact_of second what) left (one_is true is ∙ none_of) (λ t s. gone_alike is same t s (t == second) refl)

        stays : (b : Bool) → forgotten second ≡ b → (if b then root_left second what else fact_of second what ∷ []) ≡ fact_of second what ∷ [] → MayStore (with_emptied b (stored_by front second)) what
            → ((s : StableState) → with_what what (with_emptied b s) ≡ with_emptied b (with_what what s)) → AreLeft (front ++ fact_of second what ∷ [])
        stays b is all may same = kept_more front (fact_of second what) left (one_is b is ∙ all)
            (record {
              from = lawful.from;
              below = lawful.below;
              owned = lawful.owned;
              what = subst (λ (c : Bool). MayStore (with_emptied c (stored_by front second)) what) (sym is) may;
            })
            (λ t s. alike b is same t s (t == second) refl)

        by : (b : Bool) → forgotten second ≡ b → AreLeft (front ++ fact_of second what ∷ [])
        by true is = gone what refl
          where
            gone : (w : What) → what ≡ w → AreLeft (front ++ fact_of second what ∷ [])
            gone (Sealed items) e = goes is (ap (λ (x : What). root_left second x) e) (λ s. ap (λ (x : What). emptied (with_what x s)) (sym e))
            gone (Tried ballot) e = goes is (ap (λ (x : What). root_left second x) e) (λ s. ap (λ (x : What). emptied (with_what x s)) (sym e))
            gone (Promised ballot) e = goes is (ap (λ (x : What). root_left second x) e) (λ s. ap (λ (x : What). emptied (with_what x s)) (sym e))
            gone (Cast vote) e = goes is (ap (λ (x : What). root_left second x) e) (λ s. ap (λ (x : What). emptied (with_what x s)) (sym e))
            gone (Holds root) e =
                stays true is (ap (λ (x : What). root_left second x) e ∙ ap (λ (x : What). fact_of second x ∷ []) (sym e))
                (subst (λ (x : What). MayStore (emptied (stored_by front second)) x) (sym e) (subst (λ (x : What). MayStore (stored_by front second) x) e lawful.what))
                (λ s. ap (λ (x : What). with_what x (emptied s)) e ∙ ap (λ (x : What). emptied (with_what x s)) (sym e))
        by false is = stays false is refl lawful.what (λ s. refl)

    all_left : (front rest : List Fact) → AreLeft front → AreLawful cores start (front ++ rest) → AreLeft (front ++ rest)
    all_left front [] left lawful = subst AreLeft (sym (append-nil front)) left
    all_left front (fact ∷ rest) left lawful =
        subst AreLeft (append_assoc front (fact ∷ []) rest)
        (all_left (front ++ fact ∷ []) rest (fact_more front fact.second fact.what left (lawful_here front fact rest lawful))
        (subst (λ (l : List Fact). AreLawful cores start l) (sym (append_assoc front (fact ∷ []) rest)) lawful))

    pub left_facts : (facts : List Fact) → AreLawful cores start facts → AreLeft facts
    left_facts facts lawful = all_left [] facts none_left lawful

-- THE SECONDS

-- what is restored of a forgotten second is its root alone
emptied_second : (image : List ℕ → List ℕ) (me : ℕ) (voters root : List ℕ) (s : StableState) → s.held ≡ Some root → restored image me voters (emptied s) ≡ bare_second me voters root
unfolding restored
emptied_second image me voters root s is =
    ap (λ (held : Option (List ℕ)). record {
      vote = record { me = me; voters = voters; candidate = None; tried = 0; promised = 0; vote = None; held = held; hand = None };
      open_items = [];
      sealed = None;
    }) is

-- what is restored holds the root
restored_held : (image : List ℕ → List ℕ) (me : ℕ) (voters : List ℕ) (s : StableState) → (restored image me voters s).vote.held ≡ s.held
unfolding restored
restored_held image me voters s = refl

restored_owns : (image : List ℕ → List ℕ) (me : ℕ) (voters root : List ℕ) (s : StableState) → bare_second me voters root ≡ bare_second (restored image me voters s).vote.me (restored image me voters s).vote.voters root
unfolding restored
restored_owns image me voters root s = refl

some_held : (held : Option (List ℕ)) → is_some held ≡ true → (root : List ℕ) × (held ≡ Some root)
some_held None is = absurd (cc is)
some_held (Some root) is = (root, refl)

pub one_known : (b : Bool) (whole forgot : SecondState) → IsSecondOf b whole forgot → (forgot ≡ whole) ⊎ IsGone whole forgot
one_known false whole forgot same = inl same
one_known true whole forgot gone = inr gone

-- these seconds are what the facts make
abbrev pub AreOf : (image : List ℕ → List ℕ) (me : ℕ) (plan : CorePlanState) (facts : List Fact) → (ℕ → SecondState) → Type 0
AreOf image me plan facts seconds = (t : ℕ) → seconds t ≡ restored image me (voters_of plan t) (stored_by facts t)

module _ (image : List ℕ → List ℕ) (me : ℕ) (plan : CorePlanState) (forgotten : ℕ → Bool) (facts : List Fact) (whole other : ℕ → SecondState)
    (held_there : (t : ℕ) → forgotten t ≡ true → is_some (stored_by facts t).held ≡ true)
    (of : AreOf image me plan facts whole) (of_left : AreOf image me plan (left_of forgotten facts) other)
    (left : AreLeft plan.cores plan.start forgotten facts) where
  pub gone_there : (t : ℕ) → forgotten t ≡ true → IsGone (whole t) (other t)
  gone_there t is =
      let held = some_held (stored_by facts t).held (held_there t is) in
      let other_is : other t ≡ bare_second me (voters_of plan t) held.0 =
      of_left t ∙ ap (λ (s : StableState). restored image me (voters_of plan t) s) (left.stored t ∙ ap (λ (b : Bool). with_emptied b (stored_by facts t)) is)
      ∙ emptied_second image me (voters_of plan t) held.0 (stored_by facts t) held.1 in
      subst (λ (w : SecondState). IsGone w (other t)) (sym (of t))
      (record {
        root = held.0;
        held = restored_held image me (voters_of plan t) (stored_by facts t) ∙ held.1;
        left = other_is ∙ restored_owns image me (voters_of plan t) held.0 (stored_by facts t);
      })

  pub each_left : AreForgottenAt forgotten whole other
  each_left t = by (forgotten t) refl
    where
      by : (b : Bool) → forgotten t ≡ b → IsSecondOf b (whole t) (other t)
      by false is = of_left t
          ∙ ap (λ (s : StableState). restored image me (voters_of plan t) s) (left.stored t ∙ ap (λ (b : Bool). with_emptied b (stored_by facts t)) is)
          ∙ sym (of t)
      by true is = gone_there t is

  pub seconds_left : AreForgotten whole other
  seconds_left t = one_known (forgotten t) (whole t) (other t) (each_left t)

-- a second that is held and early is forgotten, and each of these is held
pub forgotten_held : (before : ℕ) (facts : List Fact) (t : ℕ) → is_forgotten before (stored_by facts) t ≡ true → is_some (stored_by facts t).held ≡ true
forgotten_held before facts t is = (and_parts (nat_lt t before) (is_some (stored_by facts t).held) is).1

pub early_forgotten : (image : List ℕ → List ℕ) (me before : ℕ) (plan : CorePlanState) (facts : List Fact) (whole : ℕ → SecondState) → AreOf image me plan facts whole →
    (t : ℕ) → t < before → is_some (whole t).vote.held ≡ true → is_forgotten before (stored_by facts) t ≡ true
early_forgotten image me before plan facts whole of t early held = and_from (nat_lt t before) (is_some (stored_by facts t).held) (lt-ltb t before early)
    (ap (λ (o : Option (List ℕ)). is_some o) (sym (ap (λ (s : SecondState). s.vote.held) (of t) ∙ restored_held image me (voters_of plan t) (stored_by facts t))) ∙ held)

-- WHAT A RESTART LEAVES OF A CORE IS WHAT ITS FACTS MAKE

restart_is : (image : List ℕ → List ℕ) (s : SecondState) → IsWell image s → restart_row s ≡ restored image s.vote.me s.vote.voters (stable_state s)
unfolding restored
restart_is image s well = ap with_candidate well.candidate
  where
    with_candidate : Option (List ℕ) → SecondState
    with_candidate c = record { vote = record s.vote { candidate = c; hand = None }; open_items = []; sealed = s.sealed }

own_parts : (core : CoreState) (t : ℕ) → ((state_of core t).vote.me ≡ core.me) × ((state_of core t).vote.voters ≡ voters_of core.plan t)
unfolding state_of second_of
own_parts core t = (refl, refl)

pub restart_of : (image : List ℕ → List ℕ) (plan : CorePlanState) (facts : List Fact) (core : CoreState) → HasFacts image plan facts core → AreOf image core.me plan facts (λ t. restart_row (state_of core t))
restart_of image plan facts core has t =
    let s = state_of core t in
    let own = own_parts core t in
    restart_is image s (has.well t)
    ∙ ap (λ (n : ℕ). restored image n s.vote.voters (stable_state s)) own.0
    ∙ ap (λ (vs : List ℕ). restored image core.me vs (stable_state s)) (own.1 ∙ ap (λ (p : CorePlanState). voters_of p t) has.planned)
    ∙ ap (λ (stable : StableState). restored image core.me (voters_of plan t) stable) (has.stored t)
