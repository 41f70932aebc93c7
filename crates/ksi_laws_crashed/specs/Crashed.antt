-- Cores and aggregators that keep their facts in files, over events, failures, crashes and openings: what happened, and the
-- history that says it.
use Rattle.std.specs.Prelude.{◌≡◌, ◌≢◌, ◌<◌, ℕ, Bool, true, false, List, [], ◌∷◌, ◌++◌, length, Some}
use Rattle.ksi_aggregator.specs.declared.event.RoundEvent.{RoundEvent}
use Rattle.ksi_corenode.specs.declared.event.CoreEvent.{CoreEvent}
use Rattle.ksi_schedule.specs.Plans.{PlanState, core_plan_of}
use Rattle.ksi_schedule.specs.Events.{IsEvent}
use Rattle.ksi_schedule.specs.declared.event.Event.{Event}
use Rattle.ksi_schedule.specs.declared.event.Event.TheVariants.{RestartCore, RestartAggregator}
use Rattle.ksi_world.specs.Histories.{after}
use Rattle.ksi_world.specs.CoreEvents.{asked_of, is_restart_of}
use Rattle.ksi_world.specs.RoundEvents.{round_asked_of, is_restart_of_aggregator}
use Rattle.ksi_laws_crashed.specs.Aggregators as round_node
use Rattle.ksi_laws_crashed.specs.Cores as core_node

-- the nodes that run
pub record Nodes : Type 0 where
  pub cores : ℕ → core_node.Running
  pub aggregators : ℕ → round_node.Running

-- WHAT HAPPENED

-- An event: whoever was asked took it and acknowledged it, and a restart of a node is that its store was opened again, after
-- a crash between two events. Or a node was cut off in an event, by a failure or a crash at any moment, and its store was then
-- opened again; the fact of the event was stored, or was not, and no message of the event was handed out. Or a node refused an
-- event, because it was out of memory or had forgotten its second, say, and is as it was. Or a core forgot these seconds, or an
-- aggregator the rounds before a second: it was stopped and opened again over the file of what is left of its facts.
pub data Deed : Type 0 where
  Happened : (event : Event) → Deed
  CoreCutOff : (core : ℕ) → (event : Event) → (stored : Bool) → Deed
  AggregatorCutOff : (aggregator : ℕ) → (event : Event) → (stored : Bool) → Deed
  CoreRefused : (core : ℕ) → Deed
  AggregatorRefused : (aggregator : ℕ) → Deed
  CoreForgot : (core : ℕ) → (gone : ℕ → Bool) → Deed
  AggregatorForgot : (aggregator before : ℕ) → Deed

-- the events of a history that say it: an event that was cut off happened if its fact was stored, and its node restarts; an
-- event that was refused did not happen; and to forget is a restart
abbrev pub events_of : Deed → List Event
events_of (Happened event) = event ∷ []
events_of (CoreRefused core) = []
events_of (AggregatorRefused aggregator) = []
events_of (CoreForgot core gone) = RestartCore core ∷ []
events_of (AggregatorForgot aggregator before) = RestartAggregator aggregator ∷ []
events_of (CoreCutOff core event true) = event ∷ RestartCore core ∷ []
events_of (CoreCutOff core event false) = RestartCore core ∷ []
events_of (AggregatorCutOff aggregator event true) = event ∷ RestartAggregator aggregator ∷ []
events_of (AggregatorCutOff aggregator event false) = RestartAggregator aggregator ∷ []

abbrev pub all_events : List Deed → List Event
all_events [] = []
all_events (deed ∷ deeds) = events_of deed ++ all_events deeds

-- A RUN: the nodes of a plan over deeds, after these events

module _ (image : List ℕ → List ℕ) (plan : PlanState) where
  -- each core and each aggregator of the plan takes part in an event as it asks of it
  pub record TakePart (before : List Event) (event : Event) (old new : Nodes) : Type 0 where
    pub cores : (j : ℕ) → j < plan.cores → core_node.TakesPart image j (core_plan_of plan) (asked_of j (after image plan before).wire event) (is_restart_of j event) (old.cores j) (new.cores j)
    pub aggregators : (k : ℕ) → k < length plan.parents
        → round_node.TakesPart image k plan (round_asked_of k (after image plan before) event) (is_restart_of_aggregator k event) (old.aggregators k) (new.aggregators k)

  -- one core was interrupted, and all else is unchanged
  pub record CutsCore (before : List Event) (i : ℕ) (event : Event) (stored : Bool) (old new : Nodes) : Type 0 where
    pub there : i < plan.cores
    pub asked : CoreEvent
    pub asks : asked_of i (after image plan before).wire event ≡ Some asked
    pub cut : core_node.WasCutOff image i (core_plan_of plan) asked stored (old.cores i) (new.cores i)
    pub cores : (j : ℕ) → j ≢ i → new.cores j ≡ old.cores j
    pub aggregators : (k : ℕ) → new.aggregators k ≡ old.aggregators k

  -- one aggregator was
  pub record CutsAggregator (before : List Event) (i : ℕ) (event : Event) (stored : Bool) (old new : Nodes) : Type 0 where
    pub there : i < length plan.parents
    pub asked : RoundEvent
    pub asks : round_asked_of i (after image plan before) event ≡ Some asked
    pub cut : round_node.WasCutOff image i plan asked stored (old.aggregators i) (new.aggregators i)
    pub cores : (j : ℕ) → new.cores j ≡ old.cores j
    pub aggregators : (k : ℕ) → k ≢ i → new.aggregators k ≡ old.aggregators k

  -- one core refused an event, and all else is unchanged
  pub record RefusesAtCore (i : ℕ) (old new : Nodes) : Type 0 where
    pub same : core_node.IsAsBefore (old.cores i) (new.cores i)
    pub cores : (j : ℕ) → j ≢ i → new.cores j ≡ old.cores j
    pub aggregators : (k : ℕ) → new.aggregators k ≡ old.aggregators k

  -- one aggregator did
  pub record RefusesAtAggregator (i : ℕ) (old new : Nodes) : Type 0 where
    pub same : round_node.IsAsBefore (old.aggregators i) (new.aggregators i)
    pub cores : (j : ℕ) → new.cores j ≡ old.cores j
    pub aggregators : (k : ℕ) → k ≢ i → new.aggregators k ≡ old.aggregators k

  -- one core forgot seconds, and all else is unchanged
  pub record ForgetsSeconds (i : ℕ) (gone : ℕ → Bool) (old new : Nodes) : Type 0 where
    pub there : i < plan.cores
    pub forgot : core_node.HasForgotten image i (core_plan_of plan) gone (old.cores i) (new.cores i)
    pub cores : (j : ℕ) → j ≢ i → new.cores j ≡ old.cores j
    pub aggregators : (k : ℕ) → new.aggregators k ≡ old.aggregators k

  -- one aggregator forgot rounds, and all else is unchanged
  pub record Forgets (i second : ℕ) (old new : Nodes) : Type 0 where
    pub there : i < length plan.parents
    pub forgot : round_node.HasForgotten i plan second (old.aggregators i) (new.aggregators i)
    pub cores : (j : ℕ) → new.cores j ≡ old.cores j
    pub aggregators : (k : ℕ) → k ≢ i → new.aggregators k ≡ old.aggregators k

  abbrev pub IsDeed : (before : List Event) → Deed → (old new : Nodes) → Type 0
  IsDeed before (Happened event) old new = IsEvent plan event × TakePart before event old new
  IsDeed before (CoreCutOff core event stored) old new = IsEvent plan event × CutsCore before core event stored old new
  IsDeed before (AggregatorCutOff aggregator event stored) old new = IsEvent plan event × CutsAggregator before aggregator event stored old new
  IsDeed before (CoreRefused core) old new = RefusesAtCore core old new
  IsDeed before (AggregatorRefused aggregator) old new = RefusesAtAggregator aggregator old new
  IsDeed before (CoreForgot core gone) old new = ForgetsSeconds core gone old new
  IsDeed before (AggregatorForgot aggregator second) old new = Forgets aggregator second old new

  abbrev pub Runs : (before : List Event) → List Deed → (old new : Nodes) → Type 0
  Runs before [] old new = new ≡ old
  Runs before (deed ∷ deeds) old new = (next : Nodes) × IsDeed before deed old next × Runs (before ++ events_of deed) deeds next new

  -- the nodes of the history of these events
  pub record AreNodesAfter (events : List Event) (nodes : Nodes) : Type 0 where
    pub cores : (j : ℕ) → j < plan.cores → core_node.IsCoreAfter image plan events j (nodes.cores j)
    pub aggregators : (k : ℕ) → k < length plan.parents → round_node.IsAggregatorAfter image plan events k (nodes.aggregators k)
