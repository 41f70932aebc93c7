-- A core that keeps its facts in a file and forgets seconds: what events, failures, crashes and openings make of it, and which core
-- of a history it is.
use Rattle.std.specs.Prelude.{◌≡◌, ℕ, ◌||◌, Bool, true, false, List, Option, Some, None}
use Rattle.ksi_synod.specs.CorePlans.{CorePlanState}
use Rattle.ksi_corenode.specs.declared.event.CoreEvent.{CoreEvent}
use Rattle.ksi_corenode.specs.declared.fact.Fact.{Fact}
use Rattle.ksi_corenode.specs.declared.step.Step.{Step}
use Rattle.ksi_corenode.specs.CoreState.{CoreState, state_of, IsSame, IsTurn}
use Rattle.ksi_corenode.specs.Events.{core_row, event_second}
use Rattle.ksi_corenode.specs.Restored.{HasFacts, IsOfFacts}
use Rattle.ksi_laws_forgetting.specs.Forgotten.{AreForgottenAt, MayReach}
use Rattle.ksi_laws_forgetting.specs.Left.{AreHeld, left_of}
use Rattle.ksi_nodestore.specs.Stores.{IsFileOf}
use Rattle.ksi_nodestore.specs.StoreState.{StoreState}
use Rattle.ksi_node_file.specs.CoreFacts.{core_facts}
use Rattle.ksi_node_file.specs.Crashed.{FileGrew, fact_left}
use Rattle.ksi_schedule.specs.Plans.{PlanState, core_plan_of}
use Rattle.ksi_schedule.specs.declared.event.Event.{Event}
use Rattle.ksi_world.specs.Histories.{after}

-- a core that runs, the file on its disk, and the seconds that it forgot
pub record Running : Type 0 where
  pub core : CoreState
  pub file : List ℕ
  pub forgotten : ℕ → Bool

-- the core of a store, and its file
abbrev pub running_in : {D : Type 0} → (content : D → List ℕ) → StoreState D → (forgotten : ℕ → Bool) → Running
running_in content store forgotten = record { core = store.core; file = content store.log.disk; forgotten = forgotten }

-- no second is forgotten
abbrev pub nothing : ℕ → Bool
nothing second = false

-- these seconds are forgotten, or those
abbrev pub or_these : (forgotten gone : ℕ → Bool) → ℕ → Bool
or_these forgotten gone t = forgotten t || gone t

-- WHAT A DEED MAKES OF A CORE

-- a core was opened: its file is that of some facts, and it is made of them
abbrev pub WasOpened : (List ℕ → List ℕ) → (me : ℕ) → CorePlanState → Running → Type 0
WasOpened image me plan new = (facts : List Fact) × IsFileOf me plan facts new.file × IsOfFacts image me plan facts new.core

-- It took what it was asked, by this step. It takes an event by the rule of cores that forget, or because it did not forget the
-- event's second: a core that forgot nothing may take any.
pub record TookStep (image : List ℕ → List ℕ) (me : ℕ) (plan : CorePlanState) (asked : CoreEvent) (old new : Running) : Type 0 where
  pub may : MayReach old.forgotten (state_of old.core) asked
  pub step : Step
  pub turn : IsTurn old.core new.core (event_second asked) (core_row image old.core asked) step
  pub file : FileGrew me plan step.fact old.file new.file
  pub forgets : new.forgotten ≡ old.forgotten

-- it takes part in an event that asks this of it, or restarts it, or neither
abbrev pub TakesPart : (List ℕ → List ℕ) → (me : ℕ) → CorePlanState → (asked : Option CoreEvent) → (restarts : Bool) → (old new : Running) → Type 0
TakesPart image me plan (Some asked) restarts old new = TookStep image me plan asked old new
TakesPart image me plan None true old new = (new.file ≡ old.file) × WasOpened image me plan new × (new.forgotten ≡ old.forgotten)
TakesPart image me plan None false old new = new ≡ old

-- it refused an event: its seconds and its file are as they were
pub record IsAsBefore (old new : Running) : Type 0 where
  pub core : IsSame old.core new.core
  pub file : new.file ≡ old.file
  pub forgets : new.forgotten ≡ old.forgotten

-- it was cut off in what it was asked, and opened again
pub record WasCutOff (image : List ℕ → List ℕ) (me : ℕ) (plan : CorePlanState) (asked : CoreEvent) (stored : Bool) (old new : Running) : Type 0 where
  pub may : MayReach old.forgotten (state_of old.core) asked
  pub file : FileGrew me plan (fact_left image stored old.core asked) old.file new.file
  pub opened : WasOpened image me plan new
  pub forgets : new.forgotten ≡ old.forgotten

-- It forgot seconds: it was stopped, and opened again over the file of the facts left. By its facts a root is held for each of
-- these seconds.
pub record HasForgotten (image : List ℕ → List ℕ) (me : ℕ) (plan : CorePlanState) (gone : ℕ → Bool) (old new : Running) : Type 0 where
  pub facts : List Fact
  pub held : AreHeld gone facts
  pub old_file : IsFileOf me plan facts old.file
  pub new_file : IsFileOf me plan (left_of gone facts) new.file
  pub made : IsOfFacts image me plan (left_of gone facts) new.core
  pub forgets : new.forgotten ≡ or_these old.forgotten gone

-- THE CORE OF A HISTORY

-- Core j of the history of these events: each second is what the history says, or is forgotten; then it is held there, and only
-- its root is left. The file has the facts that the core stored there, but of forgotten seconds only the roots.
pub record IsCoreAfter (image : List ℕ → List ℕ) (plan : PlanState) (events : List Event) (j : ℕ) (running : Running) : Type 0 where
  pub mine : running.core.me ≡ j
  pub seconds : AreForgottenAt running.forgotten ((after image plan events).seconds j) (state_of running.core)
  pub has : HasFacts image (core_plan_of plan) (left_of running.forgotten (core_facts image plan events j)) running.core
  pub file : IsFileOf j (core_plan_of plan) (left_of running.forgotten (core_facts image plan events j)) running.file
