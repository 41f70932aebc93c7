-- The result of opening a node file.
use Rattle.std.specs.Prelude.{◌≡◌, ℕ, ◌+◌, ◌<◌, ◌^◌, List, length, take, Result, Ok, Err}
use Rattle.ksi_ports.specs.Outside.{Raises}
use Rattle.ksi_synod.specs.CorePlans.{CorePlanState}
use Rattle.ksi_corenode.specs.declared.fact.Fact.{Fact}
use Rattle.ksi_corenode.specs.CoreState.{CoreState}
use Rattle.ksi_corenode.specs.Restored.{IsOfFacts}
use Rattle.ksi_disk.specs.declared.ending.Ending.TheVariants as ending
use Rattle.ksi_disk.specs.declared.log.GateLog.{GateLog}
use Rattle.ksi_disk.specs.Gates.{reading_of}
use Rattle.ksi_disk.specs.Logs.{IsSettled}
use Rattle.ksi_nodestore.specs.declared.heads.HeaderFault.TheVariants as fault
use Rattle.ksi_nodestore.specs.declared.refusal.OpenRefusal.{OpenRefusal}
use Rattle.ksi_nodestore.specs.declared.refusal.OpenRefusal.TheVariants.{Failed, NotFormatted, Foreign, Malformed, NoMemory}
use Rattle.ksi_nodestore.specs.declared.found.Found.{Found}
use Rattle.ksi_nodestore.specs.Headers.{header_at}
use Rattle.ksi_nodestore.specs.StoreState.{IsStoreOf, StoreState}
use Rattle.ksi_nodestore.specs.Stores.{HasNumbers, IsCoreOf, IsFault, IsFileOf, IsMalformedAt}

-- why a file is not one of core me of a plan
abbrev pub IsRefused : (me : ℕ) → CorePlanState → List ℕ → OpenRefusal → Type 0
IsRefused me plan file Failed = Unit {0}
IsRefused me plan file NotFormatted = header_at (take 18 file) ≡ Err fault.NotFormatted
IsRefused me plan file (Foreign core cores start) = HasNumbers file core cores start × ((core ≡ me) → (cores ≡ plan.cores) → (start ≡ plan.start) → ⊥)
IsRefused me plan file (Malformed place) = (header_at (take 18 file) ≡ Ok (record { core = me; cores = plan.cores; start = plan.start })) × IsMalformedAt plan.cores plan.start file place
IsRefused me plan file NoMemory = Unit {0}

-- a refusal that is not about the file
abbrev pub IsOutside : OpenRefusal → Type 0
IsOutside Failed = Unit {0}
IsOutside NotFormatted = ⊥
IsOutside (Foreign core cores start) = ⊥
IsOutside (Malformed place) = ⊥
IsOutside NoMemory = Unit {0}

-- the count of faults after reads: it rises if the disk failed, and is unchanged otherwise
abbrev pub CountsReads : {T : Type 0} → ℕ → ℕ → Result T OpenRefusal → Type 0
CountsReads before now (Ok value) = now ≡ before
CountsReads before now (Err Failed) = Raises before now
CountsReads before now (Err NotFormatted) = now ≡ before
CountsReads before now (Err (Foreign core cores start)) = now ≡ before
CountsReads before now (Err (Malformed place)) = now ≡ before
CountsReads before now (Err NoMemory) = now ≡ before

-- the bytes that are read are unchanged, unless a call of the disk failed or memory ran out
abbrev pub StaysRead : {T : Type 0} → (before now : List ℕ) → Result T OpenRefusal → Type 0
StaysRead before now (Ok value) = now ≡ before
StaysRead before now (Err Failed) = Unit {0}
StaysRead before now (Err NotFormatted) = now ≡ before
StaysRead before now (Err (Foreign core cores start)) = now ≡ before
StaysRead before now (Err (Malformed place)) = now ≡ before
StaysRead before now (Err NoMemory) = Unit {0}

-- the core restored from the records of a file
abbrev pub FoldsAs : (List ℕ → List ℕ) → (me : ℕ) → CorePlanState → List (List ℕ) → Result CoreState OpenRefusal → Type 0
FoldsAs image me plan records (Ok core) = IsCoreOf image me plan records core
FoldsAs image me plan records (Err Failed) = ⊥
FoldsAs image me plan records (Err NotFormatted) = ⊥
FoldsAs image me plan records (Err (Foreign core cores start)) = ⊥
FoldsAs image me plan records (Err (Malformed place)) = IsFault plan.cores plan.start records place
FoldsAs image me plan records (Err NoMemory) = Unit {0}

-- the header of a file is that of core me of a plan, or the reason why not
abbrev pub HeadsAs : (me : ℕ) → CorePlanState → List ℕ → Result Unit OpenRefusal → Type 0
HeadsAs me plan file (Ok done) = header_at (take 18 file) ≡ Ok (record { core = me; cores = plan.cores; start = plan.start })
HeadsAs me plan file (Err refusal) = IsRefused me plan file refusal

-- the contents of a file of core me of a plan: the core of its records, the commit byte after them, and their number
pub record IsFoundIn {C : Type 0} (image : List ℕ → List ℕ) (me : ℕ) (plan : CorePlanState) (file : List ℕ) (found : Found C) : Type 0 where
  pub head : header_at (take 18 file) ≡ Ok (record { core = me; cores = plan.cores; start = plan.start })
  pub folded : IsCoreOf image me plan (reading_of 18 file).records found.core
  pub closed : (reading_of 18 file).ending ≡ ending.Closed found.gate
  pub within : found.gate + 1 < 2 ^ 64
  pub counted : found.records ≡ length (reading_of 18 file).records

abbrev pub FindsAs : {C : Type 0} → (List ℕ → List ℕ) → (me : ℕ) → CorePlanState → List ℕ → Result (Found C) OpenRefusal → Type 0
FindsAs image me plan file (Ok found) = IsFoundIn image me plan file found
FindsAs image me plan file (Err refusal) = IsRefused me plan file refusal

-- THE STORE

-- the result for a file: the store of the facts in it, whose core is restored from them; or the reason for a refusal
abbrev pub OpensAs : {D : Type 0} → (List ℕ → List ℕ) → (content : D → List ℕ) (images : D → List ℕ → Type 0) → (me : ℕ) → CorePlanState → List ℕ → Result (StoreState D) (OpenRefusal × D) → Type 0
OpensAs image content images me plan file (Ok store) =
    (facts : List Fact) × IsFileOf me plan facts file × IsOfFacts image me plan facts store.core × IsStoreOf image content images me plan facts store
OpensAs image content images me plan file (Err refused) = IsRefused me plan file refused.0

-- the disk, in the store or returned with the refusal
abbrev pub disk_after : {D : Type 0} → Result (StoreState D) (OpenRefusal × D) → D
disk_after (Ok store) = store.log.disk
disk_after (Err refused) = refused.1

-- the count of faults after an opening: it rises if the disk failed, and is unchanged otherwise
abbrev pub OpenCounts : {D : Type 0} → ℕ → (D → ℕ) → Result (StoreState D) (OpenRefusal × D) → Type 0
OpenCounts before faults (Ok store) = faults store.log.disk ≡ before
OpenCounts before faults (Err (Failed, disk)) = Raises before (faults disk)
OpenCounts before faults (Err (NotFormatted, disk)) = faults disk ≡ before
OpenCounts before faults (Err (Foreign core cores start, disk)) = faults disk ≡ before
OpenCounts before faults (Err (Malformed place, disk)) = faults disk ≡ before
OpenCounts before faults (Err (NoMemory, disk)) = faults disk ≡ before

-- the disk's content is unchanged, in the store, and also if the refusal is about the file
abbrev pub StaysOpened : {D : Type 0} → (content : D → List ℕ) → List ℕ → Result (StoreState D) (OpenRefusal × D) → Type 0
StaysOpened content file (Ok store) = content store.log.disk ≡ file
StaysOpened content file (Err (Failed, disk)) = Unit {0}
StaysOpened content file (Err (NotFormatted, disk)) = content disk ≡ file
StaysOpened content file (Err (Foreign core cores start, disk)) = content disk ≡ file
StaysOpened content file (Err (Malformed place, disk)) = content disk ≡ file
StaysOpened content file (Err (NoMemory, disk)) = Unit {0}

abbrev pub HasNotFailed : {D : Type 0} → Result (StoreState D) (OpenRefusal × D) → Type 0
HasNotFailed (Ok store) = Unit {0}
HasNotFailed (Err (Failed, disk)) = ⊥
HasNotFailed (Err (NotFormatted, disk)) = Unit {0}
HasNotFailed (Err (Foreign core cores start, disk)) = Unit {0}
HasNotFailed (Err (Malformed place, disk)) = Unit {0}
HasNotFailed (Err (NoMemory, disk)) = Unit {0}

-- the log of a file of these facts, which are durable
pub record IsLogOf {D : Type 0} (content : D → List ℕ) (images : D → List ℕ → Type 0) (me : ℕ) (plan : CorePlanState) (facts : List Fact) (log : GateLog D) : Type 0 where
  pub settled : IsSettled content images log
  pub from : log.from ≡ 18
  pub file : IsFileOf me plan facts (content log.disk)
