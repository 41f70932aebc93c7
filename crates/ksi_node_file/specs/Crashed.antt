-- Cores that keep their facts in files, over events, failures, crashes and openings: what happened, and the history that says it.
use Rattle.std.specs.Prelude.{◌≡◌, ◌≢◌, ◌<◌, ℕ, Bool, true, false, List, [], ◌∷◌, ◌++◌, Option, Some, None}
use Rattle.ksi_synod.specs.CorePlans.{CorePlanState}
use Rattle.ksi_corenode.specs.declared.fact.Fact.{Fact}
use Rattle.ksi_corenode.specs.declared.step.Step.{Step}
use Rattle.ksi_corenode.specs.declared.event.CoreEvent.{CoreEvent}
use Rattle.ksi_corenode.specs.CoreState.{CoreState, state_of, IsSame, IsTurn}
use Rattle.ksi_corenode.specs.Events.{core_row, event_second}
use Rattle.ksi_corenode.specs.Lawful.{with_new}
use Rattle.ksi_corenode.specs.Restored.{HasFacts, IsOfFacts}
use Rattle.ksi_nodestore.specs.Stores.{IsFileOf}
use Rattle.ksi_nodestore.specs.StoreState.{StoreState}
use Rattle.ksi_nodestore.specs.Takes.{fact_added}
use Rattle.ksi_schedule.specs.Plans.{PlanState, core_plan_of}
use Rattle.ksi_schedule.specs.Events.{IsEvent}
use Rattle.ksi_schedule.specs.declared.event.Event.{Event}
use Rattle.ksi_schedule.specs.declared.event.Event.TheVariants.{RestartCore}
use Rattle.ksi_world.specs.Histories.{after}
use Rattle.ksi_world.specs.CoreEvents.{asked_of, is_restart_of}
use Rattle.ksi_node_file.specs.CoreFacts.{core_facts}

-- a core that runs, and the file on its disk
pub record Running : Type 0 where
  pub core : CoreState
  pub file : List ℕ

-- the core of a store, and its file
abbrev pub running_in : {D : Type 0} → (content : D → List ℕ) → StoreState D → Running
running_in content store = record { core = store.core; file = content store.log.disk }

-- WHAT HAPPENED

-- An event: whoever was asked took it and acknowledged it, and a restart of a core is that its store was opened again, after
-- a crash between two events. Or a core was cut off in an event, by a failure or a crash at any moment, and its store was then
-- opened again; the fact of the event was stored, or was not, and no message of the event was handed out. Or a core refused an
-- event, because it was out of memory, say, and is as it was.
pub data Deed : Type 0 where
  Happened : (event : Event) → Deed
  CutOff : (core : ℕ) → (event : Event) → (stored : Bool) → Deed
  Refused : (core : ℕ) → Deed

-- the events of a history that say it: an event that was cut off happened if its fact was stored, and its core restarts; an
-- event that was refused did not happen
abbrev pub events_of : Deed → List Event
events_of (Refused core) = []
events_of (Happened event) = event ∷ []
events_of (CutOff core event true) = event ∷ RestartCore core ∷ []
events_of (CutOff core event false) = RestartCore core ∷ []

abbrev pub all_events : List Deed → List Event
all_events [] = []
all_events (deed ∷ deeds) = events_of deed ++ all_events deeds

-- WHAT A DEED MAKES OF A CORE

-- a core was opened: its file is that of some facts, and it is made of them
abbrev pub WasOpened : (List ℕ → List ℕ) → (me : ℕ) → CorePlanState → Running → Type 0
WasOpened image me plan new = (facts : List Fact) × IsFileOf me plan facts new.file × IsOfFacts image me plan facts new.core

-- the file has one fact more, if any
abbrev pub FileGrew : (me : ℕ) → CorePlanState → (more : Option Fact) → (old new : List ℕ) → Type 0
FileGrew me plan more old new = (facts : List Fact) → IsFileOf me plan facts old → IsFileOf me plan (with_new facts more) new

-- it took what it was asked, by this step
pub record TookStep (image : List ℕ → List ℕ) (me : ℕ) (plan : CorePlanState) (asked : CoreEvent) (old new : Running) : Type 0 where
  pub step : Step
  pub turn : IsTurn old.core new.core (event_second asked) (core_row image old.core asked) step
  pub file : FileGrew me plan step.fact old.file new.file

-- it refused an event: its seconds and its file are as they were
pub record IsAsBefore (old new : Running) : Type 0 where
  pub core : IsSame old.core new.core
  pub file : new.file ≡ old.file

-- it takes part in an event that asks this of it, or restarts it, or neither
abbrev pub TakesPart : (List ℕ → List ℕ) → (me : ℕ) → CorePlanState → (asked : Option CoreEvent) → (restarts : Bool) → (old new : Running) → Type 0
TakesPart image me plan (Some asked) restarts old new = TookStep image me plan asked old new
TakesPart image me plan None true old new = (new.file ≡ old.file) × WasOpened image me plan new
TakesPart image me plan None false old new = new ≡ old

-- the fact of what it was asked, where that was stored
abbrev pub fact_left : (List ℕ → List ℕ) → (stored : Bool) → CoreState → CoreEvent → Option Fact
fact_left image true core asked = fact_added image core asked
fact_left image false core asked = None

-- it was cut off in what it was asked
pub record WasCutOff (image : List ℕ → List ℕ) (me : ℕ) (plan : CorePlanState) (asked : CoreEvent) (stored : Bool) (old new : Running) : Type 0 where
  pub file : FileGrew me plan (fact_left image stored old.core asked) old.file new.file
  pub opened : WasOpened image me plan new

-- A RUN: the cores of a plan over deeds, after these events

module _ (image : List ℕ → List ℕ) (plan : PlanState) where
  abbrev pub IsDeed : (before : List Event) → Deed → (old new : ℕ → Running) → Type 0
  IsDeed before (Happened event) old new =
      IsEvent plan event × ((j : ℕ) → j < plan.cores → TakesPart image j (core_plan_of plan) (asked_of j (after image plan before).wire event) (is_restart_of j event) (old j) (new j))
  IsDeed before (CutOff core event stored) old new =
      (asked : CoreEvent) × IsEvent plan event × (core < plan.cores) × (asked_of core (after image plan before).wire event ≡ Some asked)
      × WasCutOff image core (core_plan_of plan) asked stored (old core) (new core) × ((j : ℕ) → j ≢ core → new j ≡ old j)
  IsDeed before (Refused core) old new = IsAsBefore (old core) (new core) × ((j : ℕ) → j ≢ core → new j ≡ old j)

  abbrev pub Runs : (before : List Event) → List Deed → (old new : ℕ → Running) → Type 0
  Runs before [] old new = (j : ℕ) → new j ≡ old j
  Runs before (deed ∷ deeds) old new = (next : ℕ → Running) × IsDeed before deed old next × Runs (before ++ events_of deed) deeds next new

  -- core j of the history of these events: it keeps what the history says, and its file has the facts that it stored there
  pub record IsCoreAfter (events : List Event) (j : ℕ) (running : Running) : Type 0 where
    pub mine : running.core.me ≡ j
    pub has : HasFacts image (core_plan_of plan) (core_facts image plan events j) running.core
    pub file : IsFileOf j (core_plan_of plan) (core_facts image plan events j) running.file
    pub keeps : (t : ℕ) → state_of running.core t ≡ (after image plan events).seconds j t

  abbrev pub AreCoresAfter : List Event → (ℕ → Running) → Type 0
  AreCoresAfter events running = (j : ℕ) → j < plan.cores → IsCoreAfter events j (running j)
