-- An aggregator with its facts on a disk, and its invariants.
use Rattle.std.specs.Prelude.{◌≡◌, ℕ, List, length, false}
use Rattle.ksi_aggregator.specs.Rounds.{AggregatorState}
use Rattle.ksi_disk.specs.declared.log.GateLog.{GateLog}
use Rattle.ksi_disk.specs.Logs.{IsSettled}
use Rattle.ksi_disk.specs.Gates.{reading_of}

-- the aggregator, the log of its file, and the number of records
pub record StoreState (D : Type 0) : Type 0 where
  pub aggregator : AggregatorState
  pub log : GateLog D
  pub records : ℕ

-- the records of a file, after its header
abbrev pub records_in : List ℕ → List (List ℕ)
records_in file = (reading_of 20 file).records

-- its file is durable, and has this many records
pub record IsStored {D : Type 0} (content : D → List ℕ) (images : D → List ℕ → Type 0) (store : StoreState D) : Type 0 where
  pub settled : IsSettled content images store.log
  pub from : store.log.from ≡ 20
  pub counted : store.records ≡ length (records_in (content store.log.disk))

-- this holds until a call of its disk fails
abbrev pub IsKept : {D : Type 0} → (content : D → List ℕ) (images : D → List ℕ → Type 0) → StoreState D → Type 0
IsKept content images store = store.log.is_spent ≡ false → IsStored content images store
