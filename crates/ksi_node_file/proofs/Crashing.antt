-- Cores that crash have a history: what each deed makes of a core is what its events make of it there.
use Rattle.ksi_schedule.specs.Plans.{PlanState, IsPlan, core_plan_of}
use Rattle.std.proofs.Common.{◌≡◌, ◌<◌, ℕ, eqb, Bool, true, false, if◌then◌else◌, List, [], ◌∷◌, ◌++◌, map, option_map, refl, sym, ap, subst, ◌∙◌, arith, append-nil, append_assoc, Option, Some, None}
use Rattle.std.specs.Prelude.{◌≢◌}
use Rattle.std.proofs.lemmas.Bool.{eqb-true, eq-eqb, false_from_ne_true}
use Rattle.ksi_synod.specs.CorePlans.{CorePlanState}
use Rattle.ksi_corenode.specs.Rows.{restart_row}
use Rattle.ksi_corenode.specs.Turns.{Turn}
use Rattle.ksi_corenode.specs.Facts.{fact_of, stable_state}
use Rattle.ksi_corenode.specs.Lawful.{with_new, AreLawful}
use Rattle.ksi_corenode.specs.CoreState.{CoreState, state_of, IsSame, IsTurn}
use Rattle.ksi_corenode.specs.Events.{core_row, event_second, IsAsked, MayTake}
use Rattle.ksi_corenode.specs.Owners.{BringsOwned}
use Rattle.ksi_corenode.specs.Restored.{HasFacts, IsOfFacts, IsWell}
use Rattle.ksi_corenode.specs.SecondState.{SecondState}
use Rattle.ksi_corenode.specs.declared.event.CoreEvent.{CoreEvent}
use Rattle.ksi_corenode.specs.declared.fact.Fact.{Fact}
use Rattle.ksi_corenode.specs.declared.step.Send.{Send}
use Rattle.ksi_corenode.specs.declared.step.Step.{Step}
use Rattle.ksi_nodestore.specs.Stores.{IsFileOf}
use Rattle.ksi_nodestore.specs.Takes.{fact_added}
use Rattle.ksi_schedule.specs.Events.{IsEvent, AreEvents}
use Rattle.ksi_schedule.specs.declared.event.Event.{Event}
use Rattle.ksi_schedule.specs.declared.event.Event.TheVariants.{RestartCore}
use Rattle.ksi_world.specs.Histories.{WorldState, after, core_message, happens}
use Rattle.ksi_world.specs.Nodes.{IsCore, core_turn}
use Rattle.ksi_world.specs.CoreEvents.{asked_of, is_restart_of}
use Rattle.ksi_laws_facts.specs.Seen.{seen}
use Rattle.ksi_laws_facts.specs.State.{world_seen}
use Rattle.ksi_laws_facts.specs.Steps.{IsStepByFacts}
use Rattle.ksi_node_file.specs.CoreFacts.{core_facts}
use Rattle.ksi_node_file.specs.Crashed.{Running, Deed, Happened, CutOff, Refused, events_of, all_events, WasOpened, TookStep, IsAsBefore, TakesPart, WasCutOff, IsDeed, Runs, IsCoreAfter, AreCoresAfter}
use Rattle.ksi_node_file.proofs.FactsMore.{RowsStore, facts_asked, facts_first, facts_unasked}
use Rattle.ksi_node_file.proofs.Answering.{event_answers}
use Rattle.ksi_node_file.proofs.Onwards.{after_more, first_keeps}

-- the laws of the crates below
pub record Laws (image : List ℕ → List ℕ) (plan : PlanState) : Type 0 where
  pub plan_is : IsPlan plan
  pub seen_is : (events : List Event) → after image plan events ≡ world_seen image plan (seen image plan events)
  pub step : (before : List Event) (event : Event) → IsStepByFacts image plan before event
  pub rows : RowsStore image
  pub may : (before : List Event) → AreEvents plan before → (core : ℕ) (event : Event) (one : CoreEvent) → IsEvent plan event → asked_of core (after image plan before).wire event ≡ Some one
      → (it : CoreState) → it.start ≡ plan.start → MayTake it one × IsAsked it (event_second one)
  pub owned : (before : List Event) → AreEvents plan before → (core : ℕ) (event : Event) (one : CoreEvent) → asked_of core (after image plan before).wire event ≡ Some one → BringsOwned plan.cores one
  pub row : (w : WorldState) (core : ℕ) (it : CoreState) (one : CoreEvent) → IsCore plan (w.seconds core) core it → core_row image it one ≡ core_turn image plan w core one
  pub seconds : (w : WorldState) (core : ℕ) (event : Event) (one : CoreEvent) → asked_of core w.wire event ≡ Some one
      → (t : ℕ) → (happens image plan w event).world.seconds core t ≡ (if eqb t (event_second one) then (core_turn image plan w core one).after else w.seconds core t)
  pub others : (w : WorldState) (core other : ℕ) (event : Event) (one : CoreEvent) → asked_of core w.wire event ≡ Some one → other ≢ core → (asked_of other w.wire event ≡ None) × (is_restart_of other event ≡ false)
  pub still : (w : WorldState) (core : ℕ) (event : Event) → asked_of core w.wire event ≡ None → is_restart_of core event ≡ false → (t : ℕ) → (happens image plan w event).world.seconds core t ≡ w.seconds core t
  pub restarted : (w : WorldState) (core : ℕ) (event : Event) → is_restart_of core event ≡ true → (t : ℕ) → (happens image plan w event).world.seconds core t ≡ restart_row (w.seconds core t)
  pub one : (me : ℕ) (core_plan : CorePlanState) (facts others : List Fact) (file : List ℕ) → IsFileOf me core_plan facts file → IsFileOf me core_plan others file → facts ≡ others
  pub grows : (core_plan : CorePlanState) (facts : List Fact) (old new : CoreState) (event : CoreEvent) (step : Step) → HasFacts image core_plan facts old → MayTake old event → IsAsked old (event_second event) → BringsOwned old.plan.cores event
      → IsTurn old new (event_second event) (core_row image old event) step → HasFacts image core_plan (with_new facts step.fact) new
  pub made : (me : ℕ) (core_plan : CorePlanState) (facts : List Fact) (core : CoreState) → me < 9 → me < core_plan.cores → AreLawful core_plan.cores core_plan.start facts → IsOfFacts image me core_plan facts core → HasFacts image core_plan facts core
  pub back : (core_plan : CorePlanState) (facts : List Fact) (core other : CoreState) → HasFacts image core_plan facts core → IsOfFacts image core.me core_plan facts other
      → (t : ℕ) → state_of other t ≡ restart_row (state_of core t)
  pub back_with : (core_plan : CorePlanState) (facts : List Fact) (core other : CoreState) (event : CoreEvent) → HasFacts image core_plan facts core → MayTake core event
      → IsOfFacts image core.me core_plan (with_new facts (fact_added image core event)) other
      → (t : ℕ) → state_of other t ≡ restart_row (if eqb t (event_second event) then (core_row image core event).after else state_of core t)

are_more : (plan : PlanState) (xs ys : List Event) → AreEvents plan xs → AreEvents plan ys → AreEvents plan (xs ++ ys)
are_more plan [] ys are more = more
are_more plan (x ∷ xs) ys are more = (are.0, are_more plan xs ys are.1 more)

itself : (core : ℕ) → is_restart_of core (RestartCore core) ≡ true
itself core = eq-eqb core core refl

another : (j core : ℕ) → j ≢ core → is_restart_of j (RestartCore core) ≡ false
another j core other = false_from_ne_true (eqb j core) (λ is. other (eqb-true j core is))

-- a core that is as it was has the same facts
same_facts : (image : List ℕ → List ℕ) (core_plan : CorePlanState) (facts : List Fact) (old new : CoreState) → IsSame old new → HasFacts image core_plan facts old → HasFacts image core_plan facts new
same_facts image core_plan facts old new same has = record {
  planned = same.plan ∙ has.planned;
  begins = same.start ∙ has.begins;
  there = subst (λ (me : ℕ). me < new.plan.cores) (sym same.me) (subst (λ (p : CorePlanState). old.me < p.cores) (sym same.plan) has.there);
  lawful = has.lawful;
  stored = λ t. ap stable_state (same.seconds t) ∙ has.stored t;
  well = λ t. subst (λ (s : SecondState). IsWell image s) (sym (same.seconds t)) (has.well t);
}

refused_after : (image : List ℕ → List ℕ) (plan : PlanState) (events : List Event) (j : ℕ) (old new : Running) → IsAsBefore old new → IsCoreAfter image plan events j old → IsCoreAfter image plan events j new
refused_after image plan events j old new same is = record {
  mine = same.core.me ∙ is.mine;
  has = same_facts image (core_plan_of plan) (core_facts image plan events j) old.core new.core same.core is.has;
  file = subst (λ (file : List ℕ). IsFileOf j (core_plan_of plan) (core_facts image plan events j) file) (sym same.file) is.file;
  keeps = λ t. same.core.seconds t ∙ is.keeps t;
}

module _ (image : List ℕ → List ℕ) (plan : PlanState) (laws : Laws image plan) where
  abbrev CorePlan : CorePlanState
  CorePlan = core_plan_of plan

  abbrev World : List Event → WorldState
  World events = after image plan events

  abbrev Facts : List Event → ℕ → List Fact
  Facts events j = core_facts image plan events j

  is_core : (events : List Event) (j : ℕ) (running : Running) → IsCoreAfter image plan events j running → IsCore plan ((World events).seconds j) j running.core
  is_core events j running is = record { me = is.mine; core_plan = is.has.planned; start = is.has.begins; keeps = is.keeps }

  -- OPENED

  -- a core that was opened of a file of facts is made of these
  of_facts : (j : ℕ) (facts : List Fact) (running : Running) → IsFileOf j CorePlan facts running.file → WasOpened image j CorePlan running → IsOfFacts image j CorePlan facts running.core
  of_facts j facts running is opened = subst (λ (fs : List Fact). IsOfFacts image j CorePlan fs running.core) (laws.one j CorePlan opened.0 facts running.file opened.1 is) opened.2

  opened_after : (events : List Event) (j : ℕ) (running : Running) → j < plan.cores → IsFileOf j CorePlan (Facts events j) running.file → WasOpened image j CorePlan running
      → ((t : ℕ) → state_of running.core t ≡ (World events).seconds j t) → IsCoreAfter image plan events j running
  opened_after events j running lt file opened keeps =
      let of = of_facts j (Facts events j) running file opened in
      record { mine = of.mine; has = laws.made j CorePlan (Facts events j) running.core (omega (arith, lt, laws.plan_is.core_plan.few)) lt file.are.lawful of; file = file; keeps = keeps }

  -- before anything happened
  pub first_core : (j : ℕ) (running : Running) → j < plan.cores → IsFileOf j CorePlan [] running.file → WasOpened image j CorePlan running → IsCoreAfter image plan [] j running
  first_core j running lt file opened =
      opened_after [] j running lt (subst (λ (fs : List Fact). IsFileOf j CorePlan fs running.file) (sym (facts_first image plan j)) file) opened
      (λ t. first_keeps image plan j t running.core (of_facts j [] running file opened))

  -- ONE EVENT

  module _ (before : List Event) (event : Event) (j : ℕ) (old : Running) (is : IsCoreAfter image plan before j old) where
    next_facts : (asked : CoreEvent) → asked_of j (World before).wire event ≡ Some asked → with_new (Facts before j) (fact_added image old.core asked) ≡ Facts (before ++ event ∷ []) j
    next_facts asked here =
        ap (λ (turn : Turn). with_new (Facts before j) (option_map (fact_of (event_second asked)) turn.fact)) (laws.row (World before) j old.core asked (is_core before j old is))
        ∙ sym (facts_asked image plan before event j (laws.seen_is before) (laws.step before event) laws.rows asked here)

    next_second : (asked : CoreEvent) → asked_of j (World before).wire event ≡ Some asked → (t : ℕ)
        → (if eqb t (event_second asked) then (core_row image old.core asked).after else state_of old.core t) ≡ (World (before ++ event ∷ [])).seconds j t
    next_second asked here t =
        (λ i. if eqb t (event_second asked) then (laws.row (World before) j old.core asked (is_core before j old is) i).after else is.keeps t i)
        ∙ sym (laws.seconds (World before) j event asked here t)
        ∙ ap (λ (w : WorldState). w.seconds j t) (sym (after_more image plan before event))

    -- it took what it was asked
    took_after : AreEvents plan before → IsEvent plan event → (asked : CoreEvent) → asked_of j (World before).wire event ≡ Some asked → (new : Running) → TookStep image j CorePlan asked old new
        → IsCoreAfter image plan (before ++ event ∷ []) j new
    took_after are event_is asked here new took =
        let may = laws.may before are j event asked event_is here old.core is.has.begins in
        let owned = subst (λ (p : CorePlanState). BringsOwned p.cores asked) (sym is.has.planned) (laws.owned before are j event asked here) in
        let same : with_new (Facts before j) took.step.fact ≡ Facts (before ++ event ∷ []) j = ap (λ (fact : Option Fact). with_new (Facts before j) fact) took.turn.fact ∙ next_facts asked here in
        record {
          mine = took.turn.me ∙ is.mine;
          has = subst (λ (fs : List Fact). HasFacts image CorePlan fs new.core) same (laws.grows CorePlan (Facts before j) old.core new.core asked took.step is.has may.0 may.1 owned took.turn);
          file = subst (λ (fs : List Fact). IsFileOf j CorePlan fs new.file) same (took.file (Facts before j) is.file);
          keeps = λ t. took.turn.seconds t ∙ next_second asked here t;
        }

    -- nothing was asked of it
    still_after : asked_of j (World before).wire event ≡ None → is_restart_of j event ≡ false → IsCoreAfter image plan (before ++ event ∷ []) j old
    still_after none other =
        let same : Facts before j ≡ Facts (before ++ event ∷ []) j = sym (facts_unasked image plan before event j (laws.seen_is before) (laws.step before event) none) in
        record {
          mine = is.mine;
          has = subst (λ (fs : List Fact). HasFacts image CorePlan fs old.core) same is.has;
          file = subst (λ (fs : List Fact). IsFileOf j CorePlan fs old.file) same is.file;
          keeps = λ t. is.keeps t ∙ sym (laws.still (World before) j event none other t) ∙ ap (λ (w : WorldState). w.seconds j t) (sym (after_more image plan before event));
        }

    -- it was opened again
    restarted_after : j < plan.cores → asked_of j (World before).wire event ≡ None → is_restart_of j event ≡ true → (new : Running) → IsFileOf j CorePlan (Facts before j) new.file → WasOpened image j CorePlan new
        → IsCoreAfter image plan (before ++ event ∷ []) j new
    restarted_after lt none mine new file opened =
        let same : Facts before j ≡ Facts (before ++ event ∷ []) j = sym (facts_unasked image plan before event j (laws.seen_is before) (laws.step before event) none) in
        let of : IsOfFacts image old.core.me CorePlan (Facts before j) new.core = subst (λ (n : ℕ). IsOfFacts image n CorePlan (Facts before j) new.core) (sym is.mine) (of_facts j (Facts before j) new file opened) in
        opened_after (before ++ event ∷ []) j new lt (subst (λ (fs : List Fact). IsFileOf j CorePlan fs new.file) same file) opened
        (λ t. laws.back CorePlan (Facts before j) old.core new.core is.has of t ∙ ap restart_row (is.keeps t) ∙ sym (laws.restarted (World before) j event mine t)
        ∙ ap (λ (w : WorldState). w.seconds j t) (sym (after_more image plan before event)))

    takes_part : j < plan.cores → AreEvents plan before → IsEvent plan event → (new : Running) → TakesPart image j CorePlan (asked_of j (World before).wire event) (is_restart_of j event) old new
        → IsCoreAfter image plan (before ++ event ∷ []) j new
    takes_part lt are event_is new part = by (asked_of j (World before).wire event) (is_restart_of j event) refl refl part
      where
        by : (asked : Option CoreEvent) (restarts : Bool) → asked_of j (World before).wire event ≡ asked → is_restart_of j event ≡ restarts → TakesPart image j CorePlan asked restarts old new
            → IsCoreAfter image plan (before ++ event ∷ []) j new
        by (Some asked) restarts here restart part = took_after are event_is asked here new part
        by None true here restart part =
            restarted_after lt here restart new (subst (λ (l : List ℕ). IsFileOf j CorePlan (Facts before j) l) (sym part.0) is.file) part.1
        by None false here restart part = subst (λ (r : Running). IsCoreAfter image plan (before ++ event ∷ []) j r) (sym part) (still_after here restart)

  -- CUT OFF

  module _ (before : List Event) (event : Event) (core : ℕ) (asked : CoreEvent) (lt : core < plan.cores) (here : asked_of core (World before).wire event ≡ Some asked) where
    abbrev behind : List Event
    behind = before ++ event ∷ []

    behind_is : behind ++ RestartCore core ∷ [] ≡ before ++ event ∷ RestartCore core ∷ []
    behind_is = append_assoc before (event ∷ []) (RestartCore core ∷ [])

    -- its fact was stored: it is the core after the event and a restart
    stored_after : AreEvents plan before → IsEvent plan event → (old new : Running) → IsCoreAfter image plan before core old → WasCutOff image core CorePlan asked true old new
        → IsCoreAfter image plan (before ++ event ∷ RestartCore core ∷ []) core new
    stored_after are event_is old new is cut =
        let may = laws.may before are core event asked event_is here old.core is.has.begins in
        let facts = with_new (Facts before core) (fact_added image old.core asked) in
        let file : IsFileOf core CorePlan facts new.file = cut.file (Facts before core) is.file in
        let of : IsOfFacts image old.core.me CorePlan facts new.core = subst (λ (n : ℕ). IsOfFacts image n CorePlan facts new.core) (sym is.mine) (of_facts core facts new file cut.opened) in
        let same : facts ≡ Facts (behind ++ RestartCore core ∷ []) core =
        next_facts before event core old is asked here ∙ sym (facts_unasked image plan behind (RestartCore core) core (laws.seen_is behind) (laws.step behind (RestartCore core)) refl) in
        subst (λ (events : List Event). IsCoreAfter image plan events core new) behind_is
        (opened_after (behind ++ RestartCore core ∷ []) core new lt (subst (λ (fs : List Fact). IsFileOf core CorePlan fs new.file) same file) cut.opened
        (λ t. laws.back_with CorePlan (Facts before core) old.core new.core asked is.has may.0 of t
        ∙ ap restart_row (next_second before event core old is asked here t)
        ∙ sym (laws.restarted (World behind) core (RestartCore core) (itself core) t)
        ∙ ap (λ (w : WorldState). w.seconds core t) (sym (after_more image plan behind (RestartCore core)))))

    -- its fact was not stored: it is the core after a restart
    lost_after : (old new : Running) → IsCoreAfter image plan before core old → WasCutOff image core CorePlan asked false old new → IsCoreAfter image plan (before ++ RestartCore core ∷ []) core new
    lost_after old new is cut = restarted_after before (RestartCore core) core old is lt refl (itself core) new (cut.file (Facts before core) is.file) cut.opened

    -- the others stand by
    others_after : (stored : Bool) (j : ℕ) (running : Running) → j ≢ core → IsCoreAfter image plan before j running → IsCoreAfter image plan (before ++ events_of (CutOff core event stored)) j running
    others_after false j running other is = still_after before (RestartCore core) j running is refl (another j core other)
    others_after true j running other is =
        let apart = laws.others (World before) core j event asked here other in
        subst (λ (events : List Event). IsCoreAfter image plan events j running) behind_is
        (still_after behind (RestartCore core) j running (still_after before event j running is apart.0 apart.1) refl (another j core other))

    cut_after : AreEvents plan before → IsEvent plan event → (stored : Bool) (old new : Running) → IsCoreAfter image plan before core old → WasCutOff image core CorePlan asked stored old new
        → IsCoreAfter image plan (before ++ events_of (CutOff core event stored)) core new
    cut_after are event_is true old new is cut = stored_after are event_is old new is cut
    cut_after are event_is false old new is cut = lost_after old new is cut

  -- A RUN

  deed_events : (before : List Event) (deed : Deed) (old new : ℕ → Running) → IsDeed image plan before deed old new → AreEvents plan (events_of deed)
  deed_events before (Happened event) old new is = (is.0, tt)
  deed_events before (CutOff core event true) old new is = (is.1, (is.2, tt))
  deed_events before (CutOff core event false) old new is = (is.2, tt)
  deed_events before (Refused core) old new is = tt

  deed_after : (before : List Event) (deed : Deed) (old new : ℕ → Running) → AreEvents plan before → AreCoresAfter image plan before old → IsDeed image plan before deed old new
      → AreCoresAfter image plan (before ++ events_of deed) new
  deed_after before (Happened event) old new are cores is = λ j lt. takes_part before event j (old j) (cores j lt) lt are is.0 (new j) (is.1 j lt)
  deed_after before (CutOff core event stored) old new are cores is = λ j lt. by j lt (eqb j core) refl
    where
      by : (j : ℕ) → j < plan.cores → (b : Bool) → eqb j core ≡ b → IsCoreAfter image plan (before ++ events_of (CutOff core event stored)) j (new j)
      by j lt true here = subst (λ (k : ℕ). IsCoreAfter image plan (before ++ events_of (CutOff core event stored)) k (new k)) (sym (eqb-true j core here))
          (cut_after before event core is.0 is.2 is.3 are is.1 stored (old core) (new core) (cores core is.2) is.4)
      by j lt false there =
          let other : j ≢ core = λ same. cc (sym there ∙ eq-eqb j core same) in
          subst (λ (r : Running). IsCoreAfter image plan (before ++ events_of (CutOff core event stored)) j r) (sym (is.5 j other))
          (others_after before event core is.0 is.2 is.3 stored j (old j) other (cores j lt))
  deed_after before (Refused core) old new are cores is = λ j lt. subst (λ (events : List Event). IsCoreAfter image plan events j (new j)) (sym (append-nil before)) (by j lt (eqb j core) refl)
    where
      by : (j : ℕ) → j < plan.cores → (b : Bool) → eqb j core ≡ b → IsCoreAfter image plan before j (new j)
      by j lt true here = refused_after image plan before j (old j) (new j) (subst (λ (k : ℕ). IsAsBefore (old k) (new k)) (sym (eqb-true j core here)) is.0) (cores j lt)
      by j lt false there = subst (λ (r : Running). IsCoreAfter image plan before j r) (sym (is.1 j (λ same. cc (sym there ∙ eq-eqb j core same)))) (cores j lt)

  pub runs_after : (deeds : List Deed) (before : List Event) (old new : ℕ → Running) → AreEvents plan before → AreCoresAfter image plan before old → Runs image plan before deeds old new
      → AreEvents plan (before ++ all_events deeds) × AreCoresAfter image plan (before ++ all_events deeds) new
  runs_after [] before old new are cores runs = (
    subst (λ (events : List Event). AreEvents plan events) (sym (append-nil before)) are,
    λ j lt. subst (λ (events : List Event). IsCoreAfter image plan events j (new j)) (sym (append-nil before)) (subst (λ (r : Running). IsCoreAfter image plan before j r) (sym (runs j)) (cores j lt)),
  )
  runs_after (deed ∷ deeds) before old new are cores runs =
      let on = runs_after deeds (before ++ events_of deed) runs.0 new (are_more plan before (events_of deed) are (deed_events before deed old runs.0 runs.1)) (deed_after before deed old runs.0 are cores runs.1) runs.2 in
      let same : (before ++ events_of deed) ++ all_events deeds ≡ before ++ (events_of deed ++ all_events deeds) = append_assoc before (events_of deed) (all_events deeds) in
      (subst (λ (events : List Event). AreEvents plan events) same on.0, λ j lt. subst (λ (events : List Event). IsCoreAfter image plan events j (new j)) same (on.1 j lt))

  -- MESSAGES

  pub sent_after : ((w : WorldState) (core : ℕ) (event : Event) (one : CoreEvent) → asked_of core w.wire event ≡ Some one
      → (happens image plan w event).world.wire ≡ w.wire ++ map (core_message core (event_second one)) (core_turn image plan w core one).sends)
      → (before : List Event) (event : Event) (j : ℕ) (old new : Running) (asked : CoreEvent) → IsCoreAfter image plan before j old → asked_of j (World before).wire event ≡ Some asked → (took : TookStep image j CorePlan asked old new)
      → (World (before ++ event ∷ [])).wire ≡ (World before).wire ++ map (core_message j (event_second asked)) took.step.sends
  sent_after sends before event j old new asked is here took =
      ap (λ (w : WorldState). w.wire) (after_more image plan before event)
      ∙ sends (World before) j event asked here
      ∙ ap (λ (turn : Turn). (World before).wire ++ map (core_message j (event_second asked)) turn.sends) (sym (laws.row (World before) j old.core asked (is_core before j old is)))
      ∙ ap (λ (sent : List Send). (World before).wire ++ map (core_message j (event_second asked)) sent) (sym took.turn.sends)

  -- what it answers is what the history answers
  pub answered_after : (before : List Event) (event : Event) (j : ℕ) (old new : Running) (asked : CoreEvent) → IsCoreAfter image plan before j old → asked_of j (World before).wire event ≡ Some asked → (took : TookStep image j CorePlan asked old new)
      → took.step.answer ≡ (happens image plan (World before) event).outcome.answer
  answered_after before event j old new asked is here took =
      took.turn.answer
      ∙ ap (λ (turn : Turn). turn.answer) (laws.row (World before) j old.core asked (is_core before j old is))
      ∙ sym (event_answers image plan (World before) j event asked here)
