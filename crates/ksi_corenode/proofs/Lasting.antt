-- A core that stores the facts of its steps stores lawful ones for good, and comes back with them as after a restart.
use Rattle.std.proofs.Common.{◌≡◌, ◌∙◌, ℕ, ◌<◌, List, [], Option, Some, None, refl, sym, ap, subst, arith}
use Rattle.std.specs.Prelude.{◌==◌, option_map, IfSome}
use Rattle.std.proofs.lemmas.Bool.{cond_both}
use Rattle.ksi_synod.specs.CorePlans.{CorePlanState, voters_of}
use Rattle.ksi_corenode.specs.declared.event.CoreEvent.{CoreEvent}
use Rattle.ksi_corenode.specs.declared.event.CoreEvent.TheVariants as events
use Rattle.ksi_corenode.specs.declared.fact.What.{What}
use Rattle.ksi_corenode.specs.declared.fact.Fact.{Fact}
use Rattle.ksi_corenode.specs.declared.step.Step.{Step}
use Rattle.ksi_corenode.specs.SecondState.{SecondState}
use Rattle.ksi_corenode.specs.Facts.{StableState, Stores, stable_state, with_fact, fact_of}
use Rattle.ksi_corenode.specs.Turns.{Turn}
use Rattle.ksi_corenode.specs.Rows.{restart_row}
use Rattle.ksi_corenode.specs.Events.{event_second, core_row, IsAsked, MayTake}
use Rattle.ksi_corenode.specs.Stored.{second_of}
use Rattle.ksi_corenode.specs.Lawful.{stored_by, with_new, MayStore, IsLawful, AreLawful}
use Rattle.ksi_corenode.specs.Owners.{BringsOwned, StoresOwned}
use Rattle.ksi_corenode.specs.Restored.{restored, IsOfFacts, IsWell, HasFacts}
use Rattle.ksi_corenode.specs.CoreState.{CoreState, state_of, IsSame, IsTurn}
use Rattle.ksi_corenode.proofs.Storing.{submission_stores, seal_stores, ballot_stores, receive_stores, tell_stores, respond_stores, turn_stores}
use Rattle.ksi_corenode.proofs.Returning.{InRange, range_of, some_more, more_lawful, stable_is}
use Rattle.ksi_corenode.proofs.Owning.{event_owned}
use Rattle.ksi_corenode.proofs.Lawfulness.{IsGood, still_good, submission_good, seal_good, ballot_good, receive_good, tell_good, respond_good}

-- A STEP

module _ (image : List ℕ → List ℕ) (core : CoreState) where
  pub event_good : (event : CoreEvent) → MayTake core event → IsWell image (state_of core (event_second event)) → IsGood image (state_of core (event_second event)) (core_row image core event)
  event_good (events.Submission from second item) may well = submission_good image (state_of core second) well from item may
  event_good (events.Seal second) may well = seal_good image (state_of core second) well
  event_good (events.Ballot second) may well = ballot_good image (state_of core second) well core.plan second core.me
  event_good (events.Receive from second m) may well = receive_good image (state_of core second) well core.plan second from m may.1
  event_good (events.Tell second) may well = tell_good image (state_of core second) well core.plan second core.me
  event_good (events.Respond second) may well = respond_good image (state_of core second) well (λ t. (state_of core t).vote.held) core.start second
  event_good (events.Publish second) may well = still_good image (state_of core second) well _ refl refl

  pub event_stores : (event : CoreEvent) → Stores (state_of core (event_second event)) (core_row image core event)
  event_stores (events.Submission from second item) = submission_stores from item (state_of core second)
  event_stores (events.Seal second) = seal_stores image (state_of core second)
  event_stores (events.Ballot second) = ballot_stores (state_of core second) core.plan second core.me
  event_stores (events.Receive from second m) = receive_stores (state_of core second) core.plan second from m
  event_stores (events.Tell second) = tell_stores (state_of core second) core.plan second core.me
  event_stores (events.Respond second) = respond_stores (state_of core second) image (λ t. (state_of core t).vote.held) core.start second
  event_stores (events.Publish second) = refl

  -- what is stored is lawful
  pub fact_lawful : (event : CoreEvent) → MayTake core event → IsAsked core (event_second event) → BringsOwned core.plan.cores event → core.me < core.plan.cores → IsWell image (state_of core (event_second event)) →
      IfSome (core_row image core event).fact (λ what. IsLawful core.plan.cores core.start (stable_state (state_of core (event_second event))) (fact_of (event_second event) what))
  fact_lawful event may asked owned there well = by (core_row image core event).fact (event_good event may well).fact (event_owned image core event owned there well.mine)
    where
      by : (o : Option What) → IfSome o (MayStore (stable_state (state_of core (event_second event)))) → IfSome o (StoresOwned core.plan.cores) →
          IfSome o (λ what. IsLawful core.plan.cores core.start (stable_state (state_of core (event_second event))) (fact_of (event_second event) what))
      by None good stored = tt
      by (Some what) good stored = record { from = asked.0; below = asked.1; owned = stored; what = good }

pub facts_last : (image : List ℕ → List ℕ) (plan : CorePlanState) (facts : List Fact) (old new : CoreState) (event : CoreEvent) (step : Step) → HasFacts image plan facts old →
    MayTake old event → IsAsked old (event_second event) → BringsOwned old.plan.cores event → IsTurn old new (event_second event) (core_row image old event) step → HasFacts image plan (with_new facts step.fact) new
facts_last image plan facts old new event step has may asked owned is = record {
  planned = is.plan ∙ has.planned;
  begins = is.start ∙ has.begins;
  there = omega (arith, has.there, is.me, ap (λ (p : CorePlanState). p.cores) is.plan);
  lawful = subst (λ (o : Option Fact). AreLawful plan.cores plan.start (with_new facts o)) (sym is.fact) (lawful turn.fact (fact_lawful image old event may asked owned has.there (has.well second)));
  stored = λ t. turn_stores old new second turn step is (event_stores image old event) t
      ∙ ap (λ (s : StableState). with_fact step.fact t s) (has.stored t) ∙ sym (some_more facts step.fact t);
  well = λ t. subst (λ (s : SecondState). IsWell image s) (sym (is.seconds t))
      (cond_both (t == second) turn.after (state_of old t) (λ (s : SecondState). IsWell image s) (λ _. (event_good image old event may (has.well second)).well) (λ _. has.well t));
}
  where
    second : ℕ
    second = event_second event

    turn : Turn
    turn = core_row image old event

    lawful : (o : Option What) → IfSome o (λ what. IsLawful old.plan.cores old.start (stable_state (state_of old (event_second event))) (fact_of (event_second event) what)) →
        AreLawful plan.cores plan.start (with_new facts (option_map (fact_of (event_second event)) o))
    lawful None _ = has.lawful
    lawful (Some what) so = more_lawful plan.cores plan.start facts (fact_of (event_second event) what) has.lawful
        (subst (λ (p : CorePlanState). IsLawful p.cores plan.start (stored_by facts (event_second event)) (fact_of (event_second event) what)) has.planned
        (subst (λ (n : ℕ). IsLawful old.plan.cores n (stored_by facts (event_second event)) (fact_of (event_second event) what)) has.begins
        (subst (λ (s : StableState). IsLawful old.plan.cores old.start s (fact_of (event_second event) what)) (has.stored (event_second event)) so)))

-- COMING BACK

restored_well : (image : List ℕ → List ℕ) (me : ℕ) (voters : List ℕ) (s : StableState) → me < 9 → InRange s → IsWell image (restored image me voters s)
unfolding restored
restored_well image me voters s mine range = record { mine = mine; round = record { few = omega arith; low = λ k. omega arith }; submitted = refl; candidate = refl; tried = range.tried; promised = range.promised }

pub has_facts : (image : List ℕ → List ℕ) (me : ℕ) (plan : CorePlanState) (facts : List Fact) (core : CoreState) → me < 9 → me < plan.cores → AreLawful plan.cores plan.start facts → IsOfFacts image me plan facts core → HasFacts image plan facts core
has_facts image me plan facts core mine there lawful are = record {
  planned = are.planned;
  begins = are.begins;
  there = omega (arith, there, are.mine, ap (λ (p : CorePlanState). p.cores) are.planned);
  lawful = lawful;
  stored = stable_is image me plan facts core are;
  well = λ t. subst (λ (s : SecondState). IsWell image s) (sym (are.seconds t)) (restored_well image me (voters_of plan t) (stored_by facts t) mine (range_of plan.cores plan.start t facts lawful));
}

restart_is : (image : List ℕ → List ℕ) (s : SecondState) → IsWell image s → restored image s.vote.me s.vote.voters (stable_state s) ≡ restart_row s
unfolding restored
restart_is image s well = ap with_candidate (sym well.candidate)
  where
    with_candidate : Option (List ℕ) → SecondState
    with_candidate c = record { vote = record s.vote { candidate = c; hand = None }; open_items = []; sealed = s.sealed }

pub own_parts : (core : CoreState) (t : ℕ) → ((state_of core t).vote.me ≡ core.me) × ((state_of core t).vote.voters ≡ voters_of core.plan t)
unfolding state_of second_of
own_parts core t = (refl, refl)

-- a second that is well and has these facts comes back as after a restart
pub comes_back_at : (image : List ℕ → List ℕ) (me : ℕ) (plan : CorePlanState) (facts : List Fact) (s : SecondState) (other : CoreState) (t : ℕ) → IsOfFacts image me plan facts other →
    stable_state s ≡ stored_by facts t → IsWell image s → s.vote.me ≡ me → s.vote.voters ≡ voters_of plan t → state_of other t ≡ restart_row s
comes_back_at image me plan facts s other t are stored well mine voters =
    are.seconds t
    ∙ ap (λ (stable : StableState). restored image me (voters_of plan t) stable) (sym stored)
    ∙ ap (λ (n : ℕ). restored image n (voters_of plan t) (stable_state s)) (sym mine)
    ∙ ap (λ (vs : List ℕ). restored image s.vote.me vs (stable_state s)) (sym voters)
    ∙ restart_is image s well

pub comes_back : (image : List ℕ → List ℕ) (plan : CorePlanState) (facts : List Fact) (core other : CoreState) → HasFacts image plan facts core → IsOfFacts image core.me plan facts other →
    (t : ℕ) → state_of other t ≡ restart_row (state_of core t)
comes_back image plan facts core other has are t =
    let parts = own_parts core t in
    comes_back_at image core.me plan facts (state_of core t) other t are (has.stored t) (has.well t) parts.0 (parts.1 ∙ ap (λ (p : CorePlanState). voters_of p t) has.planned)

-- WHERE NOTHING CHANGES

pub of_facts_same : (image : List ℕ → List ℕ) (me : ℕ) (plan : CorePlanState) (facts : List Fact) (old new : CoreState) → IsOfFacts image me plan facts old → IsSame old new → IsOfFacts image me plan facts new
of_facts_same image me plan facts old new are same = record {
  mine = same.me ∙ are.mine;
  planned = same.plan ∙ are.planned;
  begins = same.start ∙ are.begins;
  seconds = λ t. same.seconds t ∙ are.seconds t;
}

pub has_facts_same : (image : List ℕ → List ℕ) (plan : CorePlanState) (facts : List Fact) (old new : CoreState) → HasFacts image plan facts old → IsSame old new → HasFacts image plan facts new
has_facts_same image plan facts old new has same = record {
  planned = same.plan ∙ has.planned;
  begins = same.start ∙ has.begins;
  there = omega (arith, has.there, same.me, ap (λ (p : CorePlanState). p.cores) same.plan);
  lawful = has.lawful;
  stored = λ t. ap stable_state (same.seconds t) ∙ has.stored t;
  well = λ t. subst (λ (s : SecondState). IsWell image s) (sym (same.seconds t)) (has.well t);
}
