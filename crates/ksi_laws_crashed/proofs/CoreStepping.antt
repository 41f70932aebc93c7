-- What each part in a deed makes of a core that forgets is what the events of the deed make of it in the history.
use Rattle.std.proofs.Common.{◌≡◌, ◌<◌, ℕ, eqb, Bool, true, false, if◌then◌else◌, List, [], ◌∷◌, ◌++◌, map, option_map, refl, sym, ap, subst, ◌∙◌, arith, append_assoc, Option, Some, None}
use Rattle.std.specs.Prelude.{◌≢◌}
use Rattle.std.proofs.lemmas.Bool.{eqb-true, eq-eqb, false_from_ne_true}
use Rattle.ksi_synod.specs.VoteState as votes
use Rattle.ksi_synod.specs.CorePlans.{CorePlanState}
use Rattle.ksi_corenode.specs.SecondState.{SecondState, fresh_second}
use Rattle.ksi_corenode.specs.Rows.{restart_row}
use Rattle.ksi_corenode.specs.Turns.{Turn}
use Rattle.ksi_corenode.specs.Facts.{fact_of, stable_state}
use Rattle.ksi_corenode.specs.Lawful.{with_new, AreLawful}
use Rattle.ksi_corenode.specs.CoreState.{CoreState, state_of, IsSame, IsTurn}
use Rattle.ksi_corenode.specs.Events.{core_row, event_second, IsAsked, MayTake}
use Rattle.ksi_corenode.specs.Owners.{BringsOwned}
use Rattle.ksi_corenode.specs.Restored.{restored, HasFacts, IsOfFacts, IsWell}
use Rattle.ksi_corenode.specs.declared.event.CoreEvent.{CoreEvent}
use Rattle.ksi_corenode.specs.declared.event.CoreEvent.TheVariants as happenings
use Rattle.ksi_corenode.specs.declared.fact.Fact.{Fact}
use Rattle.ksi_corenode.specs.declared.step.Send.{Send}
use Rattle.ksi_corenode.specs.declared.step.Step.{Step}
use Rattle.ksi_laws_forgetting.specs.Forgotten.{AreForgottenAt, IsSecondOf, MayReach, SayTheSame, seconds_after, turn_of}
use Rattle.ksi_laws_forgetting.specs.Left.{AreHeld, left_of}
use Rattle.ksi_nodestore.specs.Stores.{IsFileOf}
use Rattle.ksi_nodestore.specs.Takes.{fact_added}
use Rattle.ksi_node_file.specs.CoreFacts.{core_facts}
use Rattle.ksi_schedule.specs.Plans.{PlanState, IsPlan, core_plan_of}
use Rattle.ksi_schedule.specs.Events.{IsEvent, AreEvents}
use Rattle.ksi_schedule.specs.declared.event.Event.{Event}
use Rattle.ksi_schedule.specs.declared.event.Event.TheVariants.{RestartCore}
use Rattle.ksi_world.specs.Histories.{WorldState, after, core_message, first_world, happens}
use Rattle.ksi_world.specs.Nodes.{core_turn}
use Rattle.ksi_world.specs.CoreEvents.{asked_of, is_restart_of}
use Rattle.ksi_laws_crashed.specs.Crashed.{CoreCutOff, events_of}
use Rattle.ksi_laws_crashed.specs.Cores.{Running, WasOpened, TookStep, TakesPart, IsAsBefore, WasCutOff, HasForgotten, IsCoreAfter, nothing, or_these}
use Rattle.ksi_laws_crashed.proofs.Below.{after_more}

-- the laws of the crates below on cores
pub record CoreLaws (image : List ℕ → List ℕ) (plan : PlanState) : Type 0 where
  pub plan_is : IsPlan plan
  pub may : (before : List Event) → AreEvents plan before → (core : ℕ) (event : Event) (one : CoreEvent) → IsEvent plan event → asked_of core (after image plan before).wire event ≡ Some one
      → (it : CoreState) → it.start ≡ plan.start → MayTake it one × IsAsked it (event_second one)
  pub owned : (before : List Event) → AreEvents plan before → (core : ℕ) (event : Event) (one : CoreEvent) → asked_of core (after image plan before).wire event ≡ Some one → BringsOwned plan.cores one
  pub seconds : (w : WorldState) (core : ℕ) (event : Event) (one : CoreEvent) → asked_of core w.wire event ≡ Some one
      → (t : ℕ) → (happens image plan w event).world.seconds core t ≡ (if eqb t (event_second one) then (core_turn image plan w core one).after else w.seconds core t)
  pub sends : (w : WorldState) (core : ℕ) (event : Event) (one : CoreEvent) → asked_of core w.wire event ≡ Some one
      → (happens image plan w event).world.wire ≡ w.wire ++ map (core_message core (event_second one)) (core_turn image plan w core one).sends
  pub others : (w : WorldState) (core other : ℕ) (event : Event) (one : CoreEvent) → asked_of core w.wire event ≡ Some one → other ≢ core → (asked_of other w.wire event ≡ None) × (is_restart_of other event ≡ false)
  pub still : (w : WorldState) (core : ℕ) (event : Event) → asked_of core w.wire event ≡ None → is_restart_of core event ≡ false → (t : ℕ) → (happens image plan w event).world.seconds core t ≡ w.seconds core t
  pub restarted : (w : WorldState) (core : ℕ) (event : Event) → is_restart_of core event ≡ true → (t : ℕ) → (happens image plan w event).world.seconds core t ≡ restart_row (w.seconds core t)
  pub one : (me : ℕ) (core_plan : CorePlanState) (facts others : List Fact) (file : List ℕ) → IsFileOf me core_plan facts file → IsFileOf me core_plan others file → facts ≡ others
  pub grows : (core_plan : CorePlanState) (facts : List Fact) (old new : CoreState) (event : CoreEvent) (step : Step) → HasFacts image core_plan facts old → MayTake old event → IsAsked old (event_second event) → BringsOwned old.plan.cores event
      → IsTurn old new (event_second event) (core_row image old event) step → HasFacts image core_plan (with_new facts step.fact) new
  pub made : (me : ℕ) (core_plan : CorePlanState) (facts : List Fact) (core : CoreState) → me < 9 → me < core_plan.cores → AreLawful core_plan.cores core_plan.start facts → IsOfFacts image me core_plan facts core → HasFacts image core_plan facts core
  pub back : (core_plan : CorePlanState) (facts : List Fact) (core other : CoreState) → HasFacts image core_plan facts core → IsOfFacts image core.me core_plan facts other → (t : ℕ) → state_of other t ≡ restart_row (state_of core t)
  pub back_with : (core_plan : CorePlanState) (facts : List Fact) (core other : CoreState) (event : CoreEvent) → HasFacts image core_plan facts core → MayTake core event
      → IsOfFacts image core.me core_plan (with_new facts (fact_added image core event)) other
      → (t : ℕ) → state_of other t ≡ restart_row (if eqb t (event_second event) then (core_row image core event).after else state_of core t)
  -- the facts of a history
  pub facts_first : (j : ℕ) → core_facts image plan [] j ≡ []
  pub facts_asked : (before : List Event) (event : Event) (j : ℕ) (asked : CoreEvent) → asked_of j (after image plan before).wire event ≡ Some asked
      → core_facts image plan (before ++ event ∷ []) j ≡ with_new (core_facts image plan before j) (option_map (fact_of (event_second asked)) (core_turn image plan (after image plan before) j asked).fact)
  pub facts_still : (before : List Event) (event : Event) (j : ℕ) → asked_of j (after image plan before).wire event ≡ None → core_facts image plan (before ++ event ∷ []) j ≡ core_facts image plan before j
  pub answers : (w : WorldState) (j : ℕ) (event : Event) (asked : CoreEvent) → asked_of j w.wire event ≡ Some asked → (happens image plan w event).outcome.answer ≡ (core_turn image plan w j asked).answer
  -- cores that forget
  pub row : (core : CoreState) (event : CoreEvent) → core_row image core event ≡ turn_of image core.plan core.start core.me (state_of core) event
  pub alike : (core_plan : CorePlanState) (start me : ℕ) (forgotten : ℕ → Bool) (whole live : ℕ → SecondState) (event : CoreEvent) → AreForgottenAt forgotten whole live → MayReach forgotten live event
      → SayTheSame (turn_of image core_plan start me live event) (turn_of image core_plan start me whole event)
  pub goes_on : (core_plan : CorePlanState) (start me : ℕ) (forgotten : ℕ → Bool) (whole live : ℕ → SecondState) (event : CoreEvent) → AreForgottenAt forgotten whole live → MayReach forgotten live event
      → AreForgottenAt forgotten (seconds_after image core_plan start me whole event) (seconds_after image core_plan start me live event)
  pub restarts : (forgotten : ℕ → Bool) (whole live : ℕ → SecondState) → AreForgottenAt forgotten whole live → AreForgottenAt forgotten (λ t. restart_row (whole t)) (λ t. restart_row (live t))
  pub adds : (core_plan : CorePlanState) (start me : ℕ) (forgotten : ℕ → Bool) (whole live : ℕ → SecondState) (event : CoreEvent) (facts : List Fact) → AreForgottenAt forgotten whole live → MayReach forgotten live event
      → left_of forgotten (with_new facts (option_map (fact_of (event_second event)) (turn_of image core_plan start me whole event).fact)) ≡ with_new (left_of forgotten facts) (option_map (fact_of (event_second event)) (turn_of image core_plan start me live event).fact)
  pub back_left : (core_plan : CorePlanState) (gone : ℕ → Bool) (facts : List Fact) (core other : CoreState) → HasFacts image core_plan facts core → AreHeld gone facts
      → IsOfFacts image core.me core_plan (left_of gone facts) other → AreForgottenAt gone (λ t. restart_row (state_of core t)) (state_of other)
  pub again : (forgotten gone : ℕ → Bool) (whole live left : ℕ → SecondState) → AreForgottenAt forgotten whole live → AreForgottenAt gone live left → AreForgottenAt (or_these forgotten gone) whole left
  pub left_again : (forgotten gone : ℕ → Bool) (facts : List Fact) → left_of gone (left_of forgotten facts) ≡ left_of (or_these forgotten gone) facts
  pub left_none : (facts : List Fact) → left_of nothing facts ≡ facts

itself : (core : ℕ) → is_restart_of core (RestartCore core) ≡ true
itself core = eq-eqb core core refl

another : (j core : ℕ) → j ≢ core → is_restart_of j (RestartCore core) ≡ false
another j core other = false_from_ne_true (eqb j core) (λ is. other (eqb-true j core is))

first_keeps : (image : List ℕ → List ℕ) (plan : PlanState) (j t : ℕ) (core : CoreState) → IsOfFacts image j (core_plan_of plan) [] core → state_of core t ≡ (after image plan []).seconds j t
unfolding after first_world restored fresh_second votes.fresh_vote
first_keeps image plan j t core is = is.seconds t

-- the turn of a core of a world is that of its seconds
turn_there : (image : List ℕ → List ℕ) (plan : PlanState) (w : WorldState) (j : ℕ) (e : CoreEvent) → turn_of image (core_plan_of plan) plan.start j (w.seconds j) e ≡ core_turn image plan w j e
turn_there image plan w j (happenings.Submission from t item) = refl
turn_there image plan w j (happenings.Seal t) = refl
turn_there image plan w j (happenings.Ballot t) = refl
turn_there image plan w j (happenings.Receive from t m) = refl
turn_there image plan w j (happenings.Tell t) = refl
turn_there image plan w j (happenings.Respond t) = refl
turn_there image plan w j (happenings.Publish t) = refl

-- a core that is as it was has the same facts
same_facts : (image : List ℕ → List ℕ) (core_plan : CorePlanState) (facts : List Fact) (old new : CoreState) → IsSame old new → HasFacts image core_plan facts old → HasFacts image core_plan facts new
same_facts image core_plan facts old new same has = record {
  planned = same.plan ∙ has.planned;
  begins = same.start ∙ has.begins;
  there = subst (λ (me : ℕ). me < new.plan.cores) (sym same.me) (subst (λ (p : CorePlanState). old.me < p.cores) (sym same.plan) has.there);
  lawful = has.lawful;
  stored = λ t. ap stable_state (same.seconds t) ∙ has.stored t;
  well = λ t. subst (λ (s : SecondState). IsWell image s) (sym (same.seconds t)) (has.well t);
}

module _ (image : List ℕ → List ℕ) (plan : PlanState) where
  abbrev CorePlan : CorePlanState
  CorePlan = core_plan_of plan

  abbrev World : List Event → WorldState
  World events = after image plan events

  abbrev Whole : List Event → ℕ → ℕ → SecondState
  Whole events j = (World events).seconds j

  abbrev Facts : List Event → ℕ → List Fact
  Facts events j = core_facts image plan events j

  abbrev Left : (forgotten : ℕ → Bool) → List Event → ℕ → List Fact
  Left forgotten events j = left_of forgotten (Facts events j)

  -- what is known of a core that forgot these seconds
  known_of : (events : List Event) (j : ℕ) (forgotten : ℕ → Bool) (new : Running) → new.forgotten ≡ forgotten → new.core.me ≡ j → AreForgottenAt forgotten (Whole events j) (state_of new.core)
      → HasFacts image CorePlan (Left forgotten events j) new.core → IsFileOf j CorePlan (Left forgotten events j) new.file → IsCoreAfter image plan events j new
  known_of events j forgotten new same mine seconds has file = record {
    mine = mine;
    seconds = subst (λ (f : ℕ → Bool). AreForgottenAt f (Whole events j) (state_of new.core)) (sym same) seconds;
    has = subst (λ (f : ℕ → Bool). HasFacts image CorePlan (Left f events j) new.core) (sym same) has;
    file = subst (λ (f : ℕ → Bool). IsFileOf j CorePlan (Left f events j) new.file) (sym same) file;
  }

  pub refused_after : (events : List Event) (j : ℕ) (old new : Running) → IsAsBefore old new → IsCoreAfter image plan events j old → IsCoreAfter image plan events j new
  refused_after events j old new same is = known_of events j old.forgotten new same.forgets (same.core.me ∙ is.mine)
      (λ t. subst (λ (s : SecondState). IsSecondOf (old.forgotten t) (Whole events j t) s) (sym (same.core.seconds t)) (is.seconds t))
      (same_facts image CorePlan (Left old.forgotten events j) old.core new.core same.core is.has)
      (subst (λ (file : List ℕ). IsFileOf j CorePlan (Left old.forgotten events j) file) (sym same.file) is.file)

  module _ (laws : CoreLaws image plan) where
    -- OPENED

    -- a core that was opened of a file of facts is made of these
    of_facts : (j : ℕ) (facts : List Fact) (running : Running) → IsFileOf j CorePlan facts running.file → WasOpened image j CorePlan running → IsOfFacts image j CorePlan facts running.core
    of_facts j facts running is opened = subst (λ (fs : List Fact). IsOfFacts image j CorePlan fs running.core) (laws.one j CorePlan opened.0 facts running.file opened.1 is) opened.2

    opened_after : (events : List Event) (j : ℕ) (forgotten : ℕ → Bool) (running : Running) → running.forgotten ≡ forgotten → j < plan.cores → IsFileOf j CorePlan (Left forgotten events j) running.file → WasOpened image j CorePlan running
        → AreForgottenAt forgotten (Whole events j) (state_of running.core) → IsCoreAfter image plan events j running
    opened_after events j forgotten running same lt file opened seconds =
        let of = of_facts j (Left forgotten events j) running file opened in
        known_of events j forgotten running same of.mine seconds (laws.made j CorePlan (Left forgotten events j) running.core (omega (arith, lt, laws.plan_is.core_plan.few)) lt file.are.lawful of) file

    -- before anything happened
    pub first_core : (j : ℕ) (running : Running) → j < plan.cores → IsFileOf j CorePlan [] running.file → WasOpened image j CorePlan running → running.forgotten ≡ nothing → IsCoreAfter image plan [] j running
    first_core j running lt file opened same =
        opened_after [] j nothing running same lt
        (subst (λ (fs : List Fact). IsFileOf j CorePlan fs running.file) (sym (laws.left_none (Facts [] j) ∙ laws.facts_first j)) file) opened
        (λ t. first_keeps image plan j t running.core (of_facts j [] running file opened))

    -- IT WAS ASKED

    module _ (before : List Event) (event : Event) (j : ℕ) (old : Running) (is : IsCoreAfter image plan before j old)
        (asked : CoreEvent) (here : asked_of j (World before).wire event ≡ Some asked) (reach : MayReach old.forgotten (state_of old.core) asked) where
      abbrev Next : List Event
      Next = before ++ event ∷ []

      abbrev Second : ℕ
      Second = event_second asked

      abbrev Turned : Turn
      Turned = core_turn image plan (World before) j asked

      abbrev Live : Turn
      Live = turn_of image CorePlan plan.start j (state_of old.core) asked

      own_row : core_row image old.core asked ≡ Live
      own_row = laws.row old.core asked
          ∙ ap (λ (p : CorePlanState). turn_of image p old.core.start old.core.me (state_of old.core) asked) is.has.planned
          ∙ ap (λ (start : ℕ). turn_of image CorePlan start old.core.me (state_of old.core) asked) is.has.begins
          ∙ ap (λ (me : ℕ). turn_of image CorePlan plan.start me (state_of old.core) asked) is.mine

      turn_is : turn_of image CorePlan plan.start j (Whole before j) asked ≡ Turned
      turn_is = turn_there image plan (World before) j asked

      same_said : SayTheSame (core_row image old.core asked) Turned
      same_said = subst (λ (turn : Turn). SayTheSame turn Turned) (sym own_row)
          (subst (λ (turn : Turn). SayTheSame Live turn) turn_is (laws.alike CorePlan plan.start j old.forgotten (Whole before j) (state_of old.core) asked is.seconds reach))

      next_left : with_new (Left old.forgotten before j) (fact_added image old.core asked) ≡ Left old.forgotten Next j
      next_left =
          ap (λ (turn : Turn). with_new (Left old.forgotten before j) (option_map (fact_of Second) turn.fact)) own_row
          ∙ sym (laws.adds CorePlan plan.start j old.forgotten (Whole before j) (state_of old.core) asked (Facts before j) is.seconds reach)
          ∙ ap (λ (turn : Turn). left_of old.forgotten (with_new (Facts before j) (option_map (fact_of Second) turn.fact))) turn_is
          ∙ ap (λ (fs : List Fact). left_of old.forgotten fs) (sym (laws.facts_asked before event j asked here))

      -- its seconds, and the history's
      abbrev taken : ℕ → SecondState
      taken t = if eqb t Second then (core_row image old.core asked).after else state_of old.core t

      next_whole : (t : ℕ) → seconds_after image CorePlan plan.start j (Whole before j) asked t ≡ Whole Next j t
      next_whole t =
          ap (λ (turn : Turn). if eqb t Second then turn.after else Whole before j t) turn_is
          ∙ sym (laws.seconds (World before) j event asked here t)
          ∙ ap (λ (w : WorldState). w.seconds j t) (sym (after_more image plan before event))

      next_live : (t : ℕ) → seconds_after image CorePlan plan.start j (state_of old.core) asked t ≡ taken t
      next_live t = ap (λ (turn : Turn). if eqb t Second then turn.after else state_of old.core t) (sym own_row)

      next_seconds : AreForgottenAt old.forgotten (Whole Next j) taken
      next_seconds t =
          subst (λ (w : SecondState). IsSecondOf (old.forgotten t) w (taken t)) (next_whole t)
          (subst (λ (s : SecondState). IsSecondOf (old.forgotten t) (seconds_after image CorePlan plan.start j (Whole before j) asked t) s) (next_live t)
          (laws.goes_on CorePlan plan.start j old.forgotten (Whole before j) (state_of old.core) asked is.seconds reach t))

      -- it took what it was asked
      took_next : AreEvents plan before → IsEvent plan event → (new : Running) → (took : TookStep image j CorePlan asked old new) → IsCoreAfter image plan Next j new
      took_next are event_is new took =
          let may = laws.may before are j event asked event_is here old.core is.has.begins in
          let owned = subst (λ (p : CorePlanState). BringsOwned p.cores asked) (sym is.has.planned) (laws.owned before are j event asked here) in
          let same : with_new (Left old.forgotten before j) took.step.fact ≡ Left old.forgotten Next j = ap (λ (fact : Option Fact). with_new (Left old.forgotten before j) fact) took.turn.fact ∙ next_left in
          known_of Next j old.forgotten new took.forgets (took.turn.me ∙ is.mine)
          (λ t. subst (λ (s : SecondState). IsSecondOf (old.forgotten t) (Whole Next j t) s) (sym (took.turn.seconds t)) (next_seconds t))
          (subst (λ (fs : List Fact). HasFacts image CorePlan fs new.core) same (laws.grows CorePlan (Left old.forgotten before j) old.core new.core asked took.step is.has may.0 may.1 owned took.turn))
          (subst (λ (fs : List Fact). IsFileOf j CorePlan fs new.file) same (took.file (Left old.forgotten before j) is.file))

      -- what it answers and sends is what the history's core does
      answered_so : (new : Running) (took : TookStep image j CorePlan asked old new) → took.step.answer ≡ (happens image plan (World before) event).outcome.answer
      answered_so new took = took.turn.answer ∙ same_said.answer ∙ sym (laws.answers (World before) j event asked here)

      sent_so : (new : Running) (took : TookStep image j CorePlan asked old new) → (World Next).wire ≡ (World before).wire ++ map (core_message j Second) took.step.sends
      sent_so new took =
          ap (λ (w : WorldState). w.wire) (after_more image plan before event)
          ∙ laws.sends (World before) j event asked here
          ∙ ap (λ (sent : List Send). (World before).wire ++ map (core_message j Second) sent) (sym (took.turn.sends ∙ same_said.sends))

      -- it was cut off, and its fact was stored: it is the core after the event and a restart
      stored_next : AreEvents plan before → IsEvent plan event → (new : Running) → j < plan.cores → WasCutOff image j CorePlan asked true old new → IsCoreAfter image plan (Next ++ RestartCore j ∷ []) j new
      stored_next are event_is new lt cut =
          let may = laws.may before are j event asked event_is here old.core is.has.begins in
          let facts = with_new (Left old.forgotten before j) (fact_added image old.core asked) in
          let file : IsFileOf j CorePlan facts new.file = cut.file (Left old.forgotten before j) is.file in
          let of : IsOfFacts image old.core.me CorePlan facts new.core = subst (λ (n : ℕ). IsOfFacts image n CorePlan facts new.core) (sym is.mine) (of_facts j facts new file cut.opened) in
          let same : facts ≡ Left old.forgotten (Next ++ RestartCore j ∷ []) j = next_left ∙ ap (λ (fs : List Fact). left_of old.forgotten fs) (sym (laws.facts_still Next (RestartCore j) j refl)) in
          let whole : (t : ℕ) → restart_row (Whole Next j t) ≡ Whole (Next ++ RestartCore j ∷ []) j t =
          (λ t. sym (laws.restarted (World Next) j (RestartCore j) (itself j) t) ∙ ap (λ (w : WorldState). w.seconds j t) (sym (after_more image plan Next (RestartCore j)))) in
          opened_after (Next ++ RestartCore j ∷ []) j old.forgotten new cut.forgets lt (subst (λ (fs : List Fact). IsFileOf j CorePlan fs new.file) same file) cut.opened
          (λ t. subst (λ (w : SecondState). IsSecondOf (old.forgotten t) w (state_of new.core t)) (whole t)
          (subst (λ (s : SecondState). IsSecondOf (old.forgotten t) (restart_row (Whole Next j t)) s) (sym (laws.back_with CorePlan (Left old.forgotten before j) old.core new.core asked is.has may.0 of t))
          (laws.restarts old.forgotten (Whole Next j) taken next_seconds t)))

    -- NOTHING WAS ASKED

    module _ (before : List Event) (event : Event) (j : ℕ) (old : Running) (is : IsCoreAfter image plan before j old) (none : asked_of j (World before).wire event ≡ None) where
      abbrev Later : List Event
      Later = before ++ event ∷ []

      left_still : (forgotten : ℕ → Bool) → Left forgotten before j ≡ Left forgotten Later j
      left_still forgotten = ap (λ (fs : List Fact). left_of forgotten fs) (sym (laws.facts_still before event j none))

      pub still_after : is_restart_of j event ≡ false → IsCoreAfter image plan Later j old
      still_after other = record {
        mine = is.mine;
        seconds = λ t. subst (λ (w : SecondState). IsSecondOf (old.forgotten t) w (state_of old.core t))
            (sym (laws.still (World before) j event none other t) ∙ ap (λ (w : WorldState). w.seconds j t) (sym (after_more image plan before event))) (is.seconds t);
        has = subst (λ (fs : List Fact). HasFacts image CorePlan fs old.core) (left_still old.forgotten) is.has;
        file = subst (λ (fs : List Fact). IsFileOf j CorePlan fs old.file) (left_still old.forgotten) is.file;
      }

      -- a restart of the core that forgot nothing
      whole_back : is_restart_of j event ≡ true → (t : ℕ) → restart_row (Whole before j t) ≡ Whole Later j t
      whole_back mine t = sym (laws.restarted (World before) j event mine t) ∙ ap (λ (w : WorldState). w.seconds j t) (sym (after_more image plan before event))

      -- it was opened again
      pub restarted_after : j < plan.cores → is_restart_of j event ≡ true → (new : Running) → IsFileOf j CorePlan (Left old.forgotten before j) new.file → WasOpened image j CorePlan new → new.forgotten ≡ old.forgotten
          → IsCoreAfter image plan Later j new
      restarted_after lt mine new file opened same =
          let of : IsOfFacts image old.core.me CorePlan (Left old.forgotten before j) new.core =
          subst (λ (n : ℕ). IsOfFacts image n CorePlan (Left old.forgotten before j) new.core) (sym is.mine) (of_facts j (Left old.forgotten before j) new file opened) in
          opened_after Later j old.forgotten new same lt (subst (λ (fs : List Fact). IsFileOf j CorePlan fs new.file) (left_still old.forgotten) file) opened
          (λ t. subst (λ (w : SecondState). IsSecondOf (old.forgotten t) w (state_of new.core t)) (whole_back mine t)
          (subst (λ (s : SecondState). IsSecondOf (old.forgotten t) (restart_row (Whole before j t)) s) (sym (laws.back CorePlan (Left old.forgotten before j) old.core new.core is.has of t))
          (laws.restarts old.forgotten (Whole before j) (state_of old.core) is.seconds t)))

      -- it was opened again over the file of what is left of its facts
      pub left_after : j < plan.cores → is_restart_of j event ≡ true → (gone : ℕ → Bool) (new : Running) → HasForgotten image j CorePlan gone old new → IsCoreAfter image plan Later j new
      left_after lt mine gone new forgot =
          let facts = Left old.forgotten before j in
          let one : forgot.facts ≡ facts = laws.one j CorePlan forgot.facts facts old.file forgot.old_file is.file in
          let held : AreHeld gone facts = subst (λ (fs : List Fact). AreHeld gone fs) one forgot.held in
          let made : IsOfFacts image old.core.me CorePlan (left_of gone facts) new.core =
          subst (λ (n : ℕ). IsOfFacts image n CorePlan (left_of gone facts) new.core) (sym is.mine) (subst (λ (fs : List Fact). IsOfFacts image j CorePlan (left_of gone fs) new.core) one forgot.made) in
          let left : left_of gone forgot.facts ≡ Left (or_these old.forgotten gone) Later j =
          ap (λ (fs : List Fact). left_of gone fs) one ∙ laws.left_again old.forgotten gone (Facts before j) ∙ left_still (or_these old.forgotten gone) in
          let both : AreForgottenAt (or_these old.forgotten gone) (λ t. restart_row (Whole before j t)) (state_of new.core) =
          laws.again old.forgotten gone (λ t. restart_row (Whole before j t)) (λ t. restart_row (state_of old.core t)) (state_of new.core)
          (laws.restarts old.forgotten (Whole before j) (state_of old.core) is.seconds) (laws.back_left CorePlan gone facts old.core new.core is.has held made) in
          opened_after Later j (or_these old.forgotten gone) new forgot.forgets lt (subst (λ (fs : List Fact). IsFileOf j CorePlan fs new.file) left forgot.new_file) (left_of gone forgot.facts, forgot.new_file, forgot.made)
          (λ t. subst (λ (w : SecondState). IsSecondOf (or_these old.forgotten gone t) w (state_of new.core t)) (whole_back mine t) (both t))

    -- A PART IN AN EVENT

    pub takes_part : (before : List Event) (event : Event) (j : ℕ) (old new : Running) → j < plan.cores → AreEvents plan before → IsEvent plan event → IsCoreAfter image plan before j old
        → TakesPart image j CorePlan (asked_of j (World before).wire event) (is_restart_of j event) old new → IsCoreAfter image plan (before ++ event ∷ []) j new
    takes_part before event j old new lt are event_is is part = by (asked_of j (World before).wire event) (is_restart_of j event) refl refl part
      where
        by : (asked : Option CoreEvent) (restarts : Bool) → asked_of j (World before).wire event ≡ asked → is_restart_of j event ≡ restarts → TakesPart image j CorePlan asked restarts old new
            → IsCoreAfter image plan (before ++ event ∷ []) j new
        by (Some asked) restarts here restart part = took_next before event j old is asked here part.may are event_is new part
        by None true here restart part =
            restarted_after before event j old is here lt restart new (subst (λ (l : List ℕ). IsFileOf j CorePlan (Left old.forgotten before j) l) (sym part.0) is.file) part.1 part.2
        by None false here restart part = subst (λ (r : Running). IsCoreAfter image plan (before ++ event ∷ []) j r) (sym part) (still_after before event j old is here restart)

    -- CUT OFF

    pub cut_after : (before : List Event) (event : Event) (j : ℕ) (asked : CoreEvent) (stored : Bool) (old new : Running) → j < plan.cores → AreEvents plan before → IsEvent plan event → IsCoreAfter image plan before j old
        → asked_of j (World before).wire event ≡ Some asked → WasCutOff image j CorePlan asked stored old new → IsCoreAfter image plan (before ++ events_of (CoreCutOff j event stored)) j new
    cut_after before event j asked true old new lt are event_is is here cut =
        subst (λ (events : List Event). IsCoreAfter image plan events j new) (append_assoc before (event ∷ []) (RestartCore j ∷ []))
        (stored_next before event j old is asked here cut.may are event_is new lt cut)
    cut_after before event j asked false old new lt are event_is is here cut =
        restarted_after before (RestartCore j) j old is refl lt (itself j) new (cut.file (Left old.forgotten before j) is.file) cut.opened cut.forgets

    -- the others stand by
    pub others_after : (before : List Event) (event : Event) (i j : ℕ) (asked : CoreEvent) (stored : Bool) (running : Running) → j ≢ i → IsCoreAfter image plan before j running
        → asked_of i (World before).wire event ≡ Some asked → IsCoreAfter image plan (before ++ events_of (CoreCutOff i event stored)) j running
    others_after before event i j asked false running other is here = still_after before (RestartCore i) j running is refl (another j i other)
    others_after before event i j asked true running other is here =
        let apart = laws.others (World before) i j event asked here other in
        subst (λ (events : List Event). IsCoreAfter image plan events j running) (append_assoc before (event ∷ []) (RestartCore i ∷ []))
        (still_after (before ++ event ∷ []) (RestartCore i) j running (still_after before event j running is apart.0 apart.1) refl (another j i other))

    -- IT FORGOT

    pub forgot_after : (before : List Event) (j : ℕ) (gone : ℕ → Bool) (old new : Running) → j < plan.cores → IsCoreAfter image plan before j old → HasForgotten image j CorePlan gone old new
        → IsCoreAfter image plan (before ++ RestartCore j ∷ []) j new
    forgot_after before j gone old new lt is forgot = left_after before (RestartCore j) j old is refl lt (itself j) gone new forgot

    -- MESSAGES AND ANSWERS

    pub sent_after : (before : List Event) (event : Event) (j : ℕ) (old new : Running) (asked : CoreEvent) → IsCoreAfter image plan before j old → asked_of j (World before).wire event ≡ Some asked
        → (took : TookStep image j CorePlan asked old new) → (World (before ++ event ∷ [])).wire ≡ (World before).wire ++ map (core_message j (event_second asked)) took.step.sends
    sent_after before event j old new asked is here took = sent_so before event j old is asked here took.may new took

    pub answered_after : (before : List Event) (event : Event) (j : ℕ) (old new : Running) (asked : CoreEvent) → IsCoreAfter image plan before j old → asked_of j (World before).wire event ≡ Some asked
        → (took : TookStep image j CorePlan asked old new) → took.step.answer ≡ (happens image plan (World before) event).outcome.answer
    answered_after before event j old new asked is here took = answered_so before event j old is asked here took.may new took
