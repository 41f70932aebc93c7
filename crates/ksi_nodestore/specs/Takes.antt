-- The result of taking an event, and the store after it.
use Rattle.std.specs.Prelude.{◌≡◌, ◌⊎◌, ℕ, ◌+◌, ◌≤◌, Bool, true, false, is_some, List, [], length, IsErrOf, option_map, Option, Some, None, IfSome, Result, Ok, Err}
use Rattle.ksi_ports.specs.Outside.{Raises}
use Rattle.ksi_synod.specs.CorePlans.{CorePlanState}
use Rattle.ksi_corenode.specs.declared.fact.Fact.{Fact}
use Rattle.ksi_corenode.specs.declared.event.CoreEvent.{CoreEvent}
use Rattle.ksi_corenode.specs.declared.step.Step.{Step}
use Rattle.ksi_corenode.specs.CoreState.{CoreState, IsSame, held_by, state_of}
use Rattle.ksi_corenode.specs.Events.{core_row, event_second}
use Rattle.ksi_corenode.specs.Facts.{fact_of}
use Rattle.ksi_corenode.specs.Lawful.{with_new}
use Rattle.ksi_disk.specs.Costs.{Affords, Meter, Spends}
use Rattle.ksi_disk.specs.Drafts.{Draft}
use Rattle.ksi_nodestore.specs.declared.refusal.TakeRefusal.{TakeRefusal}
use Rattle.ksi_nodestore.specs.declared.refusal.TakeRefusal.TheVariants.{Failed, Spent, NoMemory}
use Rattle.ksi_nodestore.specs.Texts.{fact_text}
use Rattle.ksi_nodestore.specs.Writing.{CanSpell, most_bytes}
use Rattle.ksi_nodestore.specs.Stores.{IsFileOf}
use Rattle.ksi_disk.specs.declared.log.GateLog.{GateLog}
use Rattle.ksi_nodestore.specs.Opens.{IsLogOf}
use Rattle.ksi_nodestore.specs.StoreState.{IsStoreOf, StoreState}
use Rattle.ksi_nodestore.specs.Spelling.{node_text}

-- the fact that an event adds to a core, if any
abbrev pub fact_added : (List ℕ → List ℕ) → CoreState → CoreEvent → Option Fact
fact_added image core event = option_map (fact_of (event_second event)) (core_row image core event).fact

-- a file of these facts, with or without one more
abbrev pub IsFileBeforeOrAfter : (me : ℕ) → CorePlanState → List Fact → Option Fact → List ℕ → Type 0
IsFileBeforeOrAfter me plan facts more file = IsFileOf me plan facts file ⊎ IsFileOf me plan (with_new facts more) file

-- the capacity of a record for an event that adds a fact
abbrev pub HasRoomFor : (List ℕ → List ℕ) → CoreState → CoreEvent → Option ℕ → Type 0
HasRoomFor image core event None = (core_row image core event).fact ≡ None
HasRoomFor image core event (Some room) = IfSome (core_row image core event).fact (λ what. most_bytes what ≤ room)

-- the count of faults after an event: it rises if the disk failed, and is unchanged otherwise
abbrev pub TakeCounts : {T : Type 0} → ℕ → ℕ → Result T TakeRefusal → Type 0
TakeCounts before now (Ok value) = now ≡ before
TakeCounts before now (Err Failed) = Raises before now
TakeCounts before now (Err Spent) = now ≡ before
TakeCounts before now (Err NoMemory) = now ≡ before

-- the core, the log and the count of records are unchanged
pub record IsUnchanged {D : Type 0} (old new : StoreState D) : Type 0 where
  pub core : IsSame old.core new.core
  pub log : new.log ≡ old.log
  pub records : new.records ≡ old.records

-- the store after a refusal: after a failure it is spent and its count of records unchanged; any other refusal changes nothing
abbrev pub TakeLeaves : {D : Type 0} → (old new : StoreState D) → Result Step TakeRefusal → Type 0
TakeLeaves old new (Ok step) = new.log.is_spent ≡ false
TakeLeaves old new (Err Failed) = (new.log.is_spent ≡ true) × (new.records ≡ old.records)
TakeLeaves old new (Err Spent) = (old.log.is_spent ≡ true) × IsUnchanged old new
TakeLeaves old new (Err NoMemory) = IsUnchanged old new

-- a record has five bytes more than the text of its fact, and the closed commit byte one; without a fact the cost is zero
abbrev pub SpendsFor : Option Fact → Option Meter → Option Meter → Type 0
SpendsFor None old new = new ≡ old
SpendsFor (Some fact) old new = Spends (length (fact_text fact) + 6) 4 old new

abbrev pub AffordsFor : Option Fact → Option Meter → Type 0
AffordsFor None meter = Unit {0}
AffordsFor (Some fact) meter = Affords (length (fact_text fact) + 6) 4 meter

-- the capacity is enough for the longest encoding of such a fact
abbrev pub AffordsMost : Option Fact → Option Meter → Type 0
AffordsMost None meter = Unit {0}
AffordsMost (Some fact) meter = Affords (most_bytes fact.what + 6) 4 meter

-- an empty record with room for the fact of an event; None if the event adds none
abbrev pub HasRecordFor : (List ℕ → List ℕ) → CoreState → CoreEvent → Option Draft → Type 0
HasRecordFor image core event None = (core_row image core event).fact ≡ None
HasRecordFor image core event (Some draft) = (draft.content ≡ []) × IfSome (core_row image core event).fact (λ what. most_bytes what ≤ draft.room)

-- if there is a fact, there is an empty record with room for it
abbrev pub IsReady : Option Draft → Option Fact → Type 0
IsReady draft None = Unit {0}
IsReady None (Some fact) = ⊥
IsReady (Some draft) (Some fact) = (draft.content ≡ []) × (most_bytes fact.what ≤ draft.room) × CanSpell fact.what

-- the capacity that an event uses, for a disk that reports it; the disk does not fail while there is enough
pub record IsCost {T : Type 0} (fact : Option Fact) (old new : Option Meter) (result : Result T TakeRefusal) : Type 0 where
  pub spends : SpendsFor fact old new
  pub sure : AffordsFor fact old → IsErrOf result Failed → ⊥
  pub enough : AffordsMost fact old → IsErrOf result Failed → ⊥

-- the number of facts, 0 or 1
abbrev pub count_new : Option Fact → ℕ
count_new None = 0
count_new (Some fact) = 1

-- the stable part of a second, and the root it holds
abbrev pub is_sealed_at : CoreState → ℕ → Bool
is_sealed_at core t = is_some (state_of core t).sealed

abbrev pub is_held_at : CoreState → ℕ → Bool
is_held_at core t = is_some (held_by core t)

-- ---- in the code

-- a log has the facts with one more, if any; if its file was the exact encoding before, it is so still
pub record HasKept {D : Type 0} (content : D → List ℕ) (images : D → List ℕ → Type 0) (me : ℕ) (plan : CorePlanState) (facts : List Fact) (more : Option Fact) (old new : GateLog D) : Type 0 where
  pub log : IsLogOf content images me plan (with_new facts more) new
  pub exact : content old.disk ≡ node_text me plan facts → content new.disk ≡ node_text me plan (with_new facts more)

-- a store took an event that adds this fact, if any; if its file was the exact encoding before, it is so still
pub record HasTaken {D : Type 0} (image : List ℕ → List ℕ) (content : D → List ℕ) (images : D → List ℕ → Type 0) (me : ℕ) (plan : CorePlanState) (facts : List Fact) (more : Option Fact) (old new : StoreState D) : Type 0 where
  pub stored : IsStoreOf image content images me plan (with_new facts more) new
  pub exact : content old.log.disk ≡ node_text me plan facts → content new.log.disk ≡ node_text me plan (with_new facts more)
