-- A core with its facts on a disk, and its invariants.
use Rattle.std.specs.Prelude.{◌≡◌, ℕ, List, length, false}
use Rattle.ksi_synod.specs.CorePlans.{CorePlanState}
use Rattle.ksi_corenode.specs.declared.fact.Fact.{Fact}
use Rattle.ksi_corenode.specs.CoreState.{CoreState}
use Rattle.ksi_corenode.specs.Restored.{HasFacts}
use Rattle.ksi_disk.specs.declared.log.GateLog.{GateLog}
use Rattle.ksi_disk.specs.Logs.{IsSettled}
use Rattle.ksi_nodestore.specs.Stores.{IsFileOf}

-- the core, the log of its file, and the number of records
pub record StoreState (D : Type 0) : Type 0 where
  pub core : CoreState
  pub log : GateLog D
  pub records : ℕ

-- The store of core me of a plan with these facts: they are in the file, which is durable, and the core has stored exactly
-- these.
pub record IsStoreOf {D : Type 0} (image : List ℕ → List ℕ) (content : D → List ℕ) (images : D → List ℕ → Type 0) (me : ℕ) (plan : CorePlanState) (facts : List Fact) (store : StoreState D) : Type 0 where
  pub mine : store.core.me ≡ me
  pub has : HasFacts image plan facts store.core
  pub counted : store.records ≡ length facts
  pub settled : IsSettled content images store.log
  pub from : store.log.from ≡ 18
  pub file : IsFileOf me plan facts (content store.log.disk)

-- it is the store of some facts, which are in its file
abbrev pub IsStore : {D : Type 0} → (List ℕ → List ℕ) → (content : D → List ℕ) (images : D → List ℕ → Type 0) → StoreState D → Type 0
IsStore image content images store = (me : ℕ) × (plan : CorePlanState) × (facts : List Fact) × IsStoreOf image content images me plan facts store

-- this holds until a call of its disk fails
abbrev pub IsKept : {D : Type 0} → (List ℕ → List ℕ) → (content : D → List ℕ) (images : D → List ℕ → Type 0) → StoreState D → Type 0
IsKept image content images store = store.log.is_spent ≡ false → IsStore image content images store

-- the same store over another disk
abbrev pub on_disk : {D : Type 0} → StoreState D → D → StoreState D
on_disk store disk = record store { log = record store.log { disk = disk } }
