-- A core whose file has no fact of a second after the last cast no vote on one.
use Rattle.std.proofs.Common.{◌≡◌, ℕ, ◌<◌, Bool, true, false, if◌then◌else◌, List, [], ◌∷◌, refl, sym, ap, subst, ◌∙◌, arith, Option, Some, None}
use Rattle.std.proofs.lemmas.Bool.{ne_eqb}
use Rattle.ksi_corenode.specs.declared.fact.Fact.{Fact}
use Rattle.ksi_corenode.specs.CoreState.{state_of}
use Rattle.ksi_corenode.specs.Facts.{StableState, stable_state, with_what}
use Rattle.ksi_corenode.specs.Lawful.{fresh_state, stored_by, stored_on}
use Rattle.ksi_corenode.specs.SecondState.{SecondState, fresh_second}
use Rattle.ksi_laws_forgetting.specs.Forgotten.{IsSecondOf}
use Rattle.ksi_laws_forgetting.specs.Left.{left_of}
use Rattle.ksi_node_file.specs.CoreFacts.{core_facts}
use Rattle.ksi_nodestore.specs.Stores.{IsFileOf}
use Rattle.ksi_schedule.specs.Plans.{PlanState, core_plan_of}
use Rattle.ksi_schedule.specs.declared.event.Event.{Event}
use Rattle.ksi_synod.specs.CorePlans.{CorePlanState}
use Rattle.ksi_synod.specs.VoteState.{fresh_vote}
use Rattle.ksi_world.specs.Histories.{after, first_world}
use Rattle.ksi_laws_crashed.specs.Cores.{IsCoreAfter, Running}
use Rattle.ksi_laws_succession.specs.Retired.{AreUpTo, HasRetired}
use Rattle.ksi_laws_succession.proofs.Unasked.{SecondsTurn, still_none}

-- facts of earlier seconds change nothing of a later one
stored_elsewhere : (last t : ℕ) → last < t → (facts : List Fact) (s : StableState) → AreUpTo last facts → stored_on t s facts ≡ s
stored_elsewhere last t above [] s are = refl
stored_elsewhere last t above (fact ∷ facts) s are =
    ap (λ (b : Bool). stored_on t (if b then with_what fact.what s else s) facts) (ne_eqb t fact.second (λ same. omega (arith, same, are.0, above)))
    ∙ stored_elsewhere last t above facts s are.1

-- the second is the history's, or forgotten; then a root is held for it
whole_none : (gone : Bool) (whole left : SecondState) → IsSecondOf gone whole left → stable_state left ≡ fresh_state → whole.vote.vote ≡ None
whole_none false whole left is fresh = ap (λ (s : SecondState). s.vote.vote) (sym is) ∙ ap (λ (s : StableState). s.vote) fresh
whole_none true whole left is fresh =
    absurd (cc (ap (λ (s : StableState). s.held) (ap stable_state (sym is.left) ∙ fresh)))

-- a file is of one list of facts
abbrev pub OneList : Type 0
OneList = (me : ℕ) (plan : CorePlanState) (facts others : List Fact) (file : List ℕ) → IsFileOf me plan facts file → IsFileOf me plan others file → facts ≡ others

pub none_cast : OneList → (image : List ℕ → List ℕ) (plan : PlanState) (last : ℕ) (before : List Event) (core : ℕ) (running : Running) (facts : List Fact) → IsCoreAfter image plan before core running →
    IsFileOf core (core_plan_of plan) facts running.file → AreUpTo last facts → (t : ℕ) → last < t → ((after image plan before).seconds core t).vote.vote ≡ None
none_cast one image plan last before core running facts is file are t above =
    let left = left_of running.forgotten (core_facts image plan before core) in
    let same : left ≡ facts = one core (core_plan_of plan) left facts running.file is.file file in
    whole_none (running.forgotten t) ((after image plan before).seconds core t) (state_of running.core t) (is.seconds t)
    (is.has.stored t ∙ ap (λ (l : List Fact). stored_by l t) same ∙ stored_elsewhere last t above facts fresh_state are)

-- before any event nothing is cast
pub first_cast_none : (image : List ℕ → List ℕ) (plan : PlanState) (core t : ℕ) → ((after image plan []).seconds core t).vote.vote ≡ None
unfolding after first_world fresh_second fresh_vote
first_cast_none image plan core t = refl

-- a core that retired never casts a vote on a second after the last
pub retired_none : (image : List ℕ → List ℕ) (plan : PlanState) → SecondsTurn image plan → (last : ℕ) (events : List Event) (core t : ℕ) → last < t → HasRetired image plan last events core → ((after image plan events).seconds core t).vote.vote ≡ None
retired_none image plan law last events core t above is =
    subst (λ (es : List Event). ((after image plan es).seconds core t).vote.vote ≡ None) (sym is.split)
    (still_none image plan law core t is.before is.later (λ first rest event asked at asks. λ same. omega (arith, same, is.unasked first rest event asked at asks, above)) (is.cast t above))

-- what stays if it is there, and is not there in the end, is never there
pub none_before : {now end : Option (List ℕ)} → ((root : List ℕ) → now ≡ Some root → end ≡ Some root) → end ≡ None → now ≡ None
none_before {now} {end} stays none = by now refl
  where
    by : (o : Option (List ℕ)) → now ≡ o → o ≡ None
    by None is = refl
    by (Some root) is = absurd (cc (sym none ∙ stays root is))
