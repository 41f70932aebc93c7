-- A store of a core in memory that follows the core of a world.
use Rattle.ksi_schedule.specs.Plans.{PlanState, core_plan_of}
use Rattle.std.specs.Prelude.{◌≡◌, ℕ, List, []}
use Rattle.ksi_synod.specs.CorePlans.{CorePlanState}
use Rattle.ksi_corenode.specs.declared.fact.Fact.{Fact}
use Rattle.ksi_corenode.specs.declared.step.Step.{Step}
use Rattle.ksi_corenode.specs.declared.event.CoreEvent.{CoreEvent}
use Rattle.ksi_corenode.specs.CoreState.{state_of, IsTurn}
use Rattle.ksi_corenode.specs.Events.{core_row, event_second}
use Rattle.ksi_corenode.specs.Lawful.{with_new}
use Rattle.ksi_corenode.specs.Restored.{IsOfFacts}
use Rattle.ksi_disk.specs.Deeds.{StoredDisk, IsImage, content_of}
use Rattle.ksi_nodestore.specs.declared.refusal.OpenRefusal.{OpenRefusal}
use Rattle.ksi_nodestore.specs.declared.refusal.OpenRefusal.TheVariants as opens
use Rattle.ksi_nodestore.specs.declared.refusal.TakeRefusal.{TakeRefusal}
use Rattle.ksi_nodestore.specs.declared.refusal.TakeRefusal.TheVariants as takes
use Rattle.ksi_nodestore.specs.StoreState.{IsStoreOf, StoreState}
use Rattle.ksi_nodestore.specs.Spelling.{node_text}
use Rattle.ksi_schedule.specs.declared.event.Event.{Event}
use Rattle.ksi_world.specs.Histories.{after}
use Rattle.ksi_node_file.specs.CoreFacts.{core_facts}

abbrev pub images_of : StoredDisk → List ℕ → Type 0
images_of disk image = IsImage disk.start disk.deeds image

-- The store of these facts of core me of a plan, on a disk in memory of which no call is to fail: its file is nothing but
-- their spelling.
pub record IsInMemory (image : List ℕ → List ℕ) (me : ℕ) (plan : CorePlanState) (facts : List Fact) (store : StoreState StoredDisk) : Type 0 where
  pub stored : IsStoreOf image content_of images_of me plan facts store
  pub exact : content_of store.log.disk ≡ node_text me plan facts
  pub sure : store.log.disk.failing ≡ []

-- it has the facts that the core stored in these events, and its core keeps what the world's keeps
pub record IsFollowing (image : List ℕ → List ℕ) (plan : PlanState) (events : List Event) (core : ℕ) (store : StoreState StoredDisk) : Type 0 where
  pub held : IsInMemory image core (core_plan_of plan) (core_facts image plan events core) store
  pub keeps : (t : ℕ) → state_of store.core t ≡ (after image plan events).seconds core t

-- a store took this event, by this step of its core
pub record HasTaken (image : List ℕ → List ℕ) (me : ℕ) (plan : CorePlanState) (facts : List Fact) (event : CoreEvent) (old new : StoreState StoredDisk) : Type 0 where
  pub step : Step
  pub turn : IsTurn old.core new.core (event_second event) (core_row image old.core event) step
  pub held : IsInMemory image me plan (with_new facts step.fact) new

-- a store was opened of the file of these facts: its core is made of them
pub record IsOpened (image : List ℕ → List ℕ) (me : ℕ) (plan : CorePlanState) (facts : List Fact) (store : StoreState StoredDisk) : Type 0 where
  pub held : IsInMemory image me plan facts store
  pub made : IsOfFacts image me plan facts store.core

-- memory ran out
abbrev pub IsWant : OpenRefusal → Type 0
IsWant opens.Failed = ⊥
IsWant opens.NotFormatted = ⊥
IsWant (opens.Foreign core cores start) = ⊥
IsWant (opens.Malformed place) = ⊥
IsWant opens.NoMemory = Unit {0}

abbrev pub IsTakeWant : TakeRefusal → Type 0
IsTakeWant takes.Failed = ⊥
IsTakeWant takes.Spent = ⊥
IsTakeWant takes.NoMemory = Unit {0}
