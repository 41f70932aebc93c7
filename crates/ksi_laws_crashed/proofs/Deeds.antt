-- Nodes that crash have a history: what each deed makes of all of them is what its events make of them there.
use Rattle.std.proofs.Common.{◌≡◌, ◌<◌, ℕ, eqb, Bool, true, false, List, [], ◌∷◌, ◌++◌, length, refl, sym, subst, ◌∙◌, append-nil, append_assoc, Option, Some, None}
use Rattle.std.specs.Prelude.{◌≢◌}
use Rattle.std.proofs.lemmas.Bool.{eqb-true, eq-eqb}
use Rattle.ksi_aggregator.specs.declared.event.RoundEvent.{RoundEvent}
use Rattle.ksi_corenode.specs.declared.event.CoreEvent.{CoreEvent}
use Rattle.ksi_schedule.specs.Plans.{PlanState, core_plan_of}
use Rattle.ksi_schedule.specs.Events.{IsEvent, AreEvents}
use Rattle.ksi_schedule.specs.declared.event.Event.{Event}
use Rattle.ksi_schedule.specs.declared.event.Event.TheVariants.{RestartCore, RestartAggregator}
use Rattle.ksi_world.specs.Histories.{WorldState, after}
use Rattle.ksi_world.specs.CoreEvents.{asked_of, is_restart_of}
use Rattle.ksi_world.specs.RoundEvents.{round_asked_of, is_restart_of_aggregator}
use Rattle.ksi_laws_crashed.specs.Aggregators as round_node
use Rattle.ksi_laws_crashed.specs.Cores as core_node
use Rattle.ksi_laws_crashed.specs.Aggregators.{IsAggregatorAfter}
use Rattle.ksi_laws_crashed.specs.Crashed.{Nodes, Deed, Happened, CoreCutOff, AggregatorCutOff, CoreRefused, AggregatorRefused, CoreForgot, AggregatorForgot, events_of, all_events, TakePart, CutsCore, CutsAggregator, RefusesAtCore, RefusesAtAggregator, Forgets, ForgetsSeconds, IsDeed, Runs, AreNodesAfter}
use Rattle.ksi_laws_crashed.proofs.Below as below
use Rattle.ksi_laws_crashed.proofs.Forgetting as forgetting
use Rattle.ksi_laws_crashed.proofs.Stepping as stepping

-- the laws of the crates below on both kinds of node
pub record BothLaws (image : List ℕ → List ℕ) (plan : PlanState) : Type 0 where
  pub rounds : below.Laws image plan
  pub left : forgetting.FactsLeft
  pub takes_part : (before : List Event) (event : Event) (j : ℕ) (old new : core_node.Running) → j < plan.cores → AreEvents plan before → IsEvent plan event → core_node.IsCoreAfter image plan before j old
      → core_node.TakesPart image j (core_plan_of plan) (asked_of j (after image plan before).wire event) (is_restart_of j event) old new → core_node.IsCoreAfter image plan (before ++ event ∷ []) j new
  pub cut_off : (before : List Event) (event : Event) (j : ℕ) (asked : CoreEvent) (stored : Bool) (old new : core_node.Running) → j < plan.cores → AreEvents plan before → IsEvent plan event → core_node.IsCoreAfter image plan before j old
      → asked_of j (after image plan before).wire event ≡ Some asked → core_node.WasCutOff image j (core_plan_of plan) asked stored old new → core_node.IsCoreAfter image plan (before ++ events_of (CoreCutOff j event stored)) j new
  pub core_stands_by : (before : List Event) (event : Event) (i j : ℕ) (asked : CoreEvent) (stored : Bool) (running : core_node.Running) → j ≢ i → core_node.IsCoreAfter image plan before j running
      → asked_of i (after image plan before).wire event ≡ Some asked → core_node.IsCoreAfter image plan (before ++ events_of (CoreCutOff i event stored)) j running
  pub core_refused : (events : List Event) (j : ℕ) (old new : core_node.Running) → core_node.IsAsBefore old new → core_node.IsCoreAfter image plan events j old → core_node.IsCoreAfter image plan events j new
  pub core_forgot : (before : List Event) (j : ℕ) (gone : ℕ → Bool) (old new : core_node.Running) → j < plan.cores → core_node.IsCoreAfter image plan before j old
      → core_node.HasForgotten image j (core_plan_of plan) gone old new → core_node.IsCoreAfter image plan (before ++ RestartCore j ∷ []) j new
  pub no_core : (w : WorldState) (k j : ℕ) (event : Event) (one : RoundEvent) → round_asked_of k w event ≡ Some one → (asked_of j w.wire event ≡ None) × (is_restart_of j event ≡ false)
  pub no_aggregator : (w : WorldState) (j k : ℕ) (event : Event) (one : CoreEvent) → asked_of j w.wire event ≡ Some one → (round_asked_of k w event ≡ None) × (is_restart_of_aggregator k event ≡ false)

are_more : (plan : PlanState) (xs ys : List Event) → AreEvents plan xs → AreEvents plan ys → AreEvents plan (xs ++ ys)
are_more plan [] ys are more = more
are_more plan (x ∷ xs) ys are more = (are.0, are_more plan xs ys are.1 more)

module _ (image : List ℕ → List ℕ) (plan : PlanState) (laws : BothLaws image plan) where
  abbrev World : List Event → WorldState
  World events = after image plan events

  abbrev Aggregators : List Event → Nodes → Type 0
  Aggregators events nodes = (k : ℕ) → k < length plan.parents → IsAggregatorAfter image plan events k (nodes.aggregators k)

  abbrev Cores : List Event → Nodes → Type 0
  Cores events nodes = (j : ℕ) → j < plan.cores → core_node.IsCoreAfter image plan events j (nodes.cores j)

  module _ (before : List Event) (old new : Nodes) (are : AreEvents plan before) (is : AreNodesAfter image plan before old) where
    -- AN EVENT

    happened_after : (event : Event) → IsEvent plan event → TakePart image plan before event old new → AreNodesAfter image plan (before ++ event ∷ []) new
    happened_after event event_is part = record {
      cores = λ j lt. laws.takes_part before event j (old.cores j) (new.cores j) lt are event_is (is.cores j lt) (part.cores j lt);
      aggregators = λ k lt. stepping.takes_part image plan laws.rounds before event k (old.aggregators k) (new.aggregators k) are event_is (is.aggregators k lt) (part.aggregators k lt);
    }

    -- A CORE WAS CUT OFF

    module _ (event : Event) (event_is : IsEvent plan event) where
      core_cores : (i : ℕ) (stored : Bool) → CutsCore image plan before i event stored old new → Cores (before ++ events_of (CoreCutOff i event stored)) new
      core_cores i stored cut j lt = by (eqb j i) refl
        where
          by : (b : Bool) → eqb j i ≡ b → core_node.IsCoreAfter image plan (before ++ events_of (CoreCutOff i event stored)) j (new.cores j)
          by true here = subst (λ (n : ℕ). core_node.IsCoreAfter image plan (before ++ events_of (CoreCutOff i event stored)) n (new.cores n)) (sym (eqb-true j i here))
              (laws.cut_off before event i cut.asked stored (old.cores i) (new.cores i) cut.there are event_is (is.cores i cut.there) cut.asks cut.cut)
          by false there =
              let other : j ≢ i = λ same. cc (sym there ∙ eq-eqb j i same) in
              subst (λ (r : core_node.Running). core_node.IsCoreAfter image plan (before ++ events_of (CoreCutOff i event stored)) j r) (sym (cut.cores j other))
              (laws.core_stands_by before event i j cut.asked stored (old.cores j) other (is.cores j lt) cut.asks)

      stands_by : (stored : Bool) (i k : ℕ) (running : round_node.Running) → (asked : CoreEvent) → asked_of i (World before).wire event ≡ Some asked → IsAggregatorAfter image plan before k running
          → IsAggregatorAfter image plan (before ++ events_of (CoreCutOff i event stored)) k running
      stands_by false i k running asked asks so = stepping.still_after image plan laws.rounds before (RestartCore i) k running so refl refl
      stands_by true i k running asked asks so =
          let apart = laws.no_aggregator (World before) i k event asked asks in
          subst (λ (events : List Event). IsAggregatorAfter image plan events k running) (append_assoc before (event ∷ []) (RestartCore i ∷ []))
          (stepping.still_after image plan laws.rounds (before ++ event ∷ []) (RestartCore i) k running (stepping.still_after image plan laws.rounds before event k running so apart.0 apart.1) refl refl)

      core_aggregators : (i : ℕ) (stored : Bool) → CutsCore image plan before i event stored old new → Aggregators (before ++ events_of (CoreCutOff i event stored)) new
      core_aggregators i stored cut k lt =
          subst (λ (r : round_node.Running). IsAggregatorAfter image plan (before ++ events_of (CoreCutOff i event stored)) k r) (sym (cut.aggregators k))
          (stands_by stored i k (old.aggregators k) cut.asked cut.asks (is.aggregators k lt))

      core_cut_after : (i : ℕ) (stored : Bool) → CutsCore image plan before i event stored old new → AreNodesAfter image plan (before ++ events_of (CoreCutOff i event stored)) new
      core_cut_after i true cut = record { cores = core_cores i true cut; aggregators = core_aggregators i true cut }
      core_cut_after i false cut = record { cores = core_cores i false cut; aggregators = core_aggregators i false cut }

      -- AN AGGREGATOR WAS CUT OFF

      -- no core takes part
      no_part : (j k : ℕ) (asked : RoundEvent) (running : core_node.Running) → round_asked_of k (World before) event ≡ Some asked
          → core_node.TakesPart image j (core_plan_of plan) (asked_of j (World before).wire event) (is_restart_of j event) running running
      no_part j k asked running asks =
          let apart = laws.no_core (World before) k j event asked asks in
          subst (λ (one : Option CoreEvent). core_node.TakesPart image j (core_plan_of plan) one (is_restart_of j event) running running) (sym apart.0)
          (subst (λ (restarts : Bool). core_node.TakesPart image j (core_plan_of plan) None restarts running running) (sym apart.1) refl)

      -- a restart of an aggregator is nothing to a core
      past_restart : (events : List Event) (k j : ℕ) (running : core_node.Running) → AreEvents plan events → k < length plan.parents → j < plan.cores → core_node.IsCoreAfter image plan events j running
          → core_node.IsCoreAfter image plan (events ++ RestartAggregator k ∷ []) j running
      past_restart events k j running so there lt core = laws.takes_part events (RestartAggregator k) j running running lt so there core refl

      stored_cores : (k : ℕ) → CutsAggregator image plan before k event true old new → Cores (before ++ event ∷ RestartAggregator k ∷ []) new
      stored_cores k cut j lt =
          subst (λ (r : core_node.Running). core_node.IsCoreAfter image plan (before ++ event ∷ RestartAggregator k ∷ []) j r) (sym (cut.cores j))
          (subst (λ (events : List Event). core_node.IsCoreAfter image plan events j (old.cores j)) (append_assoc before (event ∷ []) (RestartAggregator k ∷ []))
          (past_restart (before ++ event ∷ []) k j (old.cores j) (are_more plan before (event ∷ []) are (event_is, tt)) cut.there lt
          (laws.takes_part before event j (old.cores j) (old.cores j) lt are event_is (is.cores j lt) (no_part j k cut.asked (old.cores j) cut.asks))))

      lost_cores : (k : ℕ) → CutsAggregator image plan before k event false old new → Cores (before ++ RestartAggregator k ∷ []) new
      lost_cores k cut j lt = subst (λ (r : core_node.Running). core_node.IsCoreAfter image plan (before ++ RestartAggregator k ∷ []) j r) (sym (cut.cores j))
          (past_restart before k j (old.cores j) are cut.there lt (is.cores j lt))

      others_by : (stored : Bool) (k i : ℕ) (running : round_node.Running) (asked : RoundEvent) → round_asked_of k (World before) event ≡ Some asked → i ≢ k → IsAggregatorAfter image plan before i running
          → IsAggregatorAfter image plan (before ++ events_of (AggregatorCutOff k event stored)) i running
      others_by true k i running asked asks other so = stepping.others_stored image plan laws.rounds before event k asked asks i running other so
      others_by false k i running asked asks other so = stepping.others_lost image plan laws.rounds before event k asked asks i running other so

      cut_by : (stored : Bool) (k : ℕ) → CutsAggregator image plan before k event stored old new → IsAggregatorAfter image plan (before ++ events_of (AggregatorCutOff k event stored)) k (new.aggregators k)
      cut_by true k cut = stepping.stored_after image plan laws.rounds before event k cut.asked cut.asks are event_is (old.aggregators k) (new.aggregators k) (is.aggregators k cut.there) cut.cut
      cut_by false k cut = stepping.lost_after image plan laws.rounds before event k cut.asked cut.asks (old.aggregators k) (new.aggregators k) (is.aggregators k cut.there) cut.cut

      cut_aggregators : (k : ℕ) (stored : Bool) → CutsAggregator image plan before k event stored old new → Aggregators (before ++ events_of (AggregatorCutOff k event stored)) new
      cut_aggregators k stored cut i lt = by (eqb i k) refl
        where
          by : (b : Bool) → eqb i k ≡ b → IsAggregatorAfter image plan (before ++ events_of (AggregatorCutOff k event stored)) i (new.aggregators i)
          by true here = subst (λ (n : ℕ). IsAggregatorAfter image plan (before ++ events_of (AggregatorCutOff k event stored)) n (new.aggregators n)) (sym (eqb-true i k here)) (cut_by stored k cut)
          by false there =
              let other : i ≢ k = λ same. cc (sym there ∙ eq-eqb i k same) in
              subst (λ (r : round_node.Running). IsAggregatorAfter image plan (before ++ events_of (AggregatorCutOff k event stored)) i r) (sym (cut.aggregators i other))
              (others_by stored k i (old.aggregators i) cut.asked cut.asks other (is.aggregators i lt))

      aggregator_cut_after : (k : ℕ) (stored : Bool) → CutsAggregator image plan before k event stored old new → AreNodesAfter image plan (before ++ events_of (AggregatorCutOff k event stored)) new
      aggregator_cut_after k true cut = record { cores = stored_cores k cut; aggregators = cut_aggregators k true cut }
      aggregator_cut_after k false cut = record { cores = lost_cores k cut; aggregators = cut_aggregators k false cut }

    -- A NODE REFUSED AN EVENT

    core_refused : (i : ℕ) → RefusesAtCore image plan i old new → AreNodesAfter image plan before new
    core_refused i refuses = record {
      cores = λ j lt. by j lt (eqb j i) refl;
      aggregators = λ k lt. subst (λ (r : round_node.Running). IsAggregatorAfter image plan before k r) (sym (refuses.aggregators k)) (is.aggregators k lt);
    }
      where
        by : (j : ℕ) → j < plan.cores → (b : Bool) → eqb j i ≡ b → core_node.IsCoreAfter image plan before j (new.cores j)
        by j lt true here = laws.core_refused before j (old.cores j) (new.cores j)
            (subst (λ (n : ℕ). core_node.IsAsBefore (old.cores n) (new.cores n)) (sym (eqb-true j i here)) refuses.same) (is.cores j lt)
        by j lt false there = subst (λ (r : core_node.Running). core_node.IsCoreAfter image plan before j r) (sym (refuses.cores j (λ same. cc (sym there ∙ eq-eqb j i same)))) (is.cores j lt)

    aggregator_refused : (i : ℕ) → RefusesAtAggregator image plan i old new → AreNodesAfter image plan before new
    aggregator_refused i refuses = record {
      cores = λ j lt. subst (λ (r : core_node.Running). core_node.IsCoreAfter image plan before j r) (sym (refuses.cores j)) (is.cores j lt);
      aggregators = λ k lt. by k lt (eqb k i) refl;
    }
      where
        by : (k : ℕ) → k < length plan.parents → (b : Bool) → eqb k i ≡ b → IsAggregatorAfter image plan before k (new.aggregators k)
        by k lt true here = stepping.refused_after image plan laws.rounds before k (old.aggregators k) (new.aggregators k)
            (subst (λ (n : ℕ). round_node.IsAsBefore (old.aggregators n) (new.aggregators n)) (sym (eqb-true k i here)) refuses.same) (is.aggregators k lt)
        by k lt false there = subst (λ (r : round_node.Running). IsAggregatorAfter image plan before k r) (sym (refuses.aggregators k (λ same. cc (sym there ∙ eq-eqb k i same)))) (is.aggregators k lt)

    -- A CORE FORGOT SECONDS

    core_forgot_after : (i : ℕ) (gone : ℕ → Bool) → ForgetsSeconds image plan i gone old new → AreNodesAfter image plan (before ++ RestartCore i ∷ []) new
    core_forgot_after i gone forgets = record {
      cores = λ j lt. by j lt (eqb j i) refl;
      aggregators = λ k lt. subst (λ (r : round_node.Running). IsAggregatorAfter image plan (before ++ RestartCore i ∷ []) k r) (sym (forgets.aggregators k))
          (stepping.still_after image plan laws.rounds before (RestartCore i) k (old.aggregators k) (is.aggregators k lt) refl refl);
    }
      where
        by : (j : ℕ) → j < plan.cores → (b : Bool) → eqb j i ≡ b → core_node.IsCoreAfter image plan (before ++ RestartCore i ∷ []) j (new.cores j)
        by j lt true here = subst (λ (n : ℕ). core_node.IsCoreAfter image plan (before ++ RestartCore i ∷ []) n (new.cores n)) (sym (eqb-true j i here))
            (laws.core_forgot before i gone (old.cores i) (new.cores i) forgets.there (is.cores i forgets.there) forgets.forgot)
        by j lt false there =
            let other : j ≢ i = λ same. cc (sym there ∙ eq-eqb j i same) in
            subst (λ (r : core_node.Running). core_node.IsCoreAfter image plan (before ++ RestartCore i ∷ []) j r) (sym (forgets.cores j other))
            (laws.takes_part before (RestartCore i) j (old.cores j) (old.cores j) lt are forgets.there (is.cores j lt)
            (subst (λ (restarts : Bool). core_node.TakesPart image j (core_plan_of plan) None restarts (old.cores j) (old.cores j)) (sym there) refl))

    -- AN AGGREGATOR FORGOT ROUNDS

    forgot_after : (i second : ℕ) → Forgets image plan i second old new → AreNodesAfter image plan (before ++ RestartAggregator i ∷ []) new
    forgot_after i second forgets = record {
      cores = λ j lt. subst (λ (r : core_node.Running). core_node.IsCoreAfter image plan (before ++ RestartAggregator i ∷ []) j r) (sym (forgets.cores j))
          (laws.takes_part before (RestartAggregator i) j (old.cores j) (old.cores j) lt are forgets.there (is.cores j lt) refl);
      aggregators = λ k lt. by k lt (eqb k i) refl;
    }
      where
        by : (k : ℕ) → k < length plan.parents → (b : Bool) → eqb k i ≡ b → IsAggregatorAfter image plan (before ++ RestartAggregator i ∷ []) k (new.aggregators k)
        by k lt true here = subst (λ (n : ℕ). IsAggregatorAfter image plan (before ++ RestartAggregator i ∷ []) n (new.aggregators n)) (sym (eqb-true k i here))
            (forgetting.forgot_after image plan laws.rounds laws.left before i second (old.aggregators i) (new.aggregators i) (is.aggregators i forgets.there) forgets.forgot)
        by k lt false there =
            let other : k ≢ i = λ same. cc (sym there ∙ eq-eqb k i same) in
            subst (λ (r : round_node.Running). IsAggregatorAfter image plan (before ++ RestartAggregator i ∷ []) k r) (sym (forgets.aggregators k other))
            (stepping.still_after image plan laws.rounds before (RestartAggregator i) k (old.aggregators k) (is.aggregators k lt) refl (below.another k i other))

  -- A RUN

  deed_events : (before : List Event) (deed : Deed) (old new : Nodes) → IsDeed image plan before deed old new → AreEvents plan (events_of deed)
  deed_events before (Happened event) old new is = (is.0, tt)
  deed_events before (CoreRefused i) old new is = tt
  deed_events before (AggregatorRefused i) old new is = tt
  deed_events before (CoreForgot i gone) old new is = (is.there, tt)
  deed_events before (AggregatorForgot i second) old new is = (is.there, tt)
  deed_events before (CoreCutOff i event true) old new is = (is.0, (is.1.there, tt))
  deed_events before (CoreCutOff i event false) old new is = (is.1.there, tt)
  deed_events before (AggregatorCutOff k event true) old new is = (is.0, (is.1.there, tt))
  deed_events before (AggregatorCutOff k event false) old new is = (is.1.there, tt)

  deed_after : (before : List Event) (deed : Deed) (old new : Nodes) → AreEvents plan before → AreNodesAfter image plan before old → IsDeed image plan before deed old new → AreNodesAfter image plan (before ++ events_of deed) new
  deed_after before (Happened event) old new are nodes is = happened_after before old new are nodes event is.0 is.1
  deed_after before (CoreCutOff i event stored) old new are nodes is = core_cut_after before old new are nodes event is.0 i stored is.1
  deed_after before (AggregatorCutOff k event stored) old new are nodes is = aggregator_cut_after before old new are nodes event is.0 k stored is.1
  deed_after before (CoreRefused i) old new are nodes is = subst (λ (events : List Event). AreNodesAfter image plan events new) (sym (append-nil before)) (core_refused before old new are nodes i is)
  deed_after before (AggregatorRefused i) old new are nodes is = subst (λ (events : List Event). AreNodesAfter image plan events new) (sym (append-nil before)) (aggregator_refused before old new are nodes i is)
  deed_after before (CoreForgot i gone) old new are nodes is = core_forgot_after before old new are nodes i gone is
  deed_after before (AggregatorForgot i second) old new are nodes is = forgot_after before old new are nodes i second is

  pub runs_after : (deeds : List Deed) (before : List Event) (old new : Nodes) → AreEvents plan before → AreNodesAfter image plan before old → Runs image plan before deeds old new
      → AreEvents plan (before ++ all_events deeds) × AreNodesAfter image plan (before ++ all_events deeds) new
  runs_after [] before old new are nodes runs = (
    subst (λ (events : List Event). AreEvents plan events) (sym (append-nil before)) are,
    subst (λ (events : List Event). AreNodesAfter image plan events new) (sym (append-nil before)) (subst (λ (n : Nodes). AreNodesAfter image plan before n) (sym runs) nodes),
  )
  runs_after (deed ∷ deeds) before old new are nodes runs =
      let on = runs_after deeds (before ++ events_of deed) runs.0 new (are_more plan before (events_of deed) are (deed_events before deed old runs.0 runs.1)) (deed_after before deed old runs.0 are nodes runs.1) runs.2 in
      let same : (before ++ events_of deed) ++ all_events deeds ≡ before ++ (events_of deed ++ all_events deeds) = append_assoc before (events_of deed) (all_events deeds) in
      (subst (λ (events : List Event). AreEvents plan events) same on.0, subst (λ (events : List Event). AreNodesAfter image plan events new) same on.1)
