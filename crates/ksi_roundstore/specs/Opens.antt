-- The result of opening an aggregator's file.
use Rattle.std.specs.Prelude.{◌≡◌, ◌⊎◌, ℕ, ◌+◌, ◌<◌, ◌^◌, List, length, take, Some, None, Result, Ok, Err}
use Rattle.ksi_ports.specs.Outside.{Raises}
use Rattle.ksi_schedule.specs.Plans.{PlanState}
use Rattle.ksi_aggregator.specs.declared.fact.Fact.{Fact}
use Rattle.ksi_aggregator.specs.Restored.{IsOfFacts}
use Rattle.ksi_disk.specs.declared.ending.Ending.TheVariants as ending
use Rattle.ksi_disk.specs.Gates.{reading_of}
use Rattle.ksi_roundstore.specs.declared.refusal.OpenRefusal.{OpenRefusal}
use Rattle.ksi_roundstore.specs.declared.refusal.OpenRefusal.TheVariants.{Failed, NotFormatted, Foreign, Malformed, NoMemory}
use Rattle.ksi_roundstore.specs.declared.found.Found.{Found}
use Rattle.ksi_roundstore.specs.Headers.{header_at}
use Rattle.ksi_roundstore.specs.Folds.{AreFactsOf, IsAggregatorOf, IsFault}
use Rattle.ksi_roundstore.specs.StoreState.{StoreState, records_in}
use Rattle.ksi_roundstore.specs.Stores.{IsFileOf, IsStoreOf}

-- a file is broken at this place: the record there encodes no valid fact, or the records do not end at a closed commit byte
abbrev pub IsMalformedAt : PlanState → (me : ℕ) → List ℕ → (place : ℕ) → Type 0
IsMalformedAt plan me file place =
    IsFault plan me (records_in file) place
    ⊎ ((facts : List Fact) × AreFactsOf plan me facts (records_in file) × ((reading_of 20 file).ending ≡ ending.Broken place))

-- why a file is not one of aggregator me of a plan
abbrev pub IsRefused : (me : ℕ) → PlanState → List ℕ → OpenRefusal → Type 0
IsRefused me plan file Failed = Unit {0}
IsRefused me plan file NotFormatted = header_at (take 20 file) ≡ None
IsRefused me plan file (Foreign aggregator first) =
    (header_at (take 20 file) ≡ Some (record { aggregator = aggregator; start = first })) × ((aggregator ≡ me) → (first ≡ plan.start) → ⊥)
IsRefused me plan file (Malformed place) = (header_at (take 20 file) ≡ Some (record { aggregator = me; start = plan.start })) × IsMalformedAt plan me file place
IsRefused me plan file NoMemory = Unit {0}

-- a refusal that is not about the file
abbrev pub IsOutside : OpenRefusal → Type 0
IsOutside Failed = Unit {0}
IsOutside NotFormatted = ⊥
IsOutside (Foreign aggregator first) = ⊥
IsOutside (Malformed place) = ⊥
IsOutside NoMemory = Unit {0}

-- the header of a file is that of aggregator me of a plan, or the reason why not
abbrev pub HeadsAs : (me : ℕ) → PlanState → List ℕ → Result Unit OpenRefusal → Type 0
HeadsAs me plan file (Ok done) = header_at (take 20 file) ≡ Some (record { aggregator = me; start = plan.start })
HeadsAs me plan file (Err refusal) = IsRefused me plan file refusal

-- the count of faults after reads: it rises if the disk failed, and is unchanged otherwise
abbrev pub CountsReads : {T : Type 0} → ℕ → ℕ → Result T OpenRefusal → Type 0
CountsReads before now (Ok value) = now ≡ before
CountsReads before now (Err Failed) = Raises before now
CountsReads before now (Err NotFormatted) = now ≡ before
CountsReads before now (Err (Foreign aggregator start)) = now ≡ before
CountsReads before now (Err (Malformed place)) = now ≡ before
CountsReads before now (Err NoMemory) = now ≡ before

-- the bytes that are read are unchanged, unless a call of the disk failed or memory ran out
abbrev pub StaysRead : {T : Type 0} → (before now : List ℕ) → Result T OpenRefusal → Type 0
StaysRead before now (Ok value) = now ≡ before
StaysRead before now (Err Failed) = Unit {0}
StaysRead before now (Err NotFormatted) = now ≡ before
StaysRead before now (Err (Foreign aggregator start)) = now ≡ before
StaysRead before now (Err (Malformed place)) = now ≡ before
StaysRead before now (Err NoMemory) = Unit {0}

-- the contents of a file of aggregator me of a plan: the aggregator of its records, the commit byte after them, and their
-- number
pub record IsFoundIn {C : Type 0} (me : ℕ) (plan : PlanState) (file : List ℕ) (found : Found C) : Type 0 where
  pub head : header_at (take 20 file) ≡ Some (record { aggregator = me; start = plan.start })
  pub folded : IsAggregatorOf plan me (records_in file) found.aggregator
  pub closed : (reading_of 20 file).ending ≡ ending.Closed found.gate
  pub within : found.gate + 1 < 2 ^ 64
  pub counted : found.records ≡ length (records_in file)

abbrev pub FindsAs : {C : Type 0} → (me : ℕ) → PlanState → List ℕ → Result (Found C) OpenRefusal → Type 0
FindsAs me plan file (Ok found) = IsFoundIn me plan file found
FindsAs me plan file (Err refusal) = IsRefused me plan file refusal

-- THE STORE

-- the result for a file: the store of the facts in it, whose aggregator is restored from them, and which counts them; or the
-- reason for a refusal
abbrev pub OpensAs : {D : Type 0} → (content : D → List ℕ) (images : D → List ℕ → Type 0) → (me : ℕ) → PlanState → List ℕ → Result (StoreState D) (OpenRefusal × D) → Type 0
OpensAs content images me plan file (Ok store) =
    (facts : List Fact) × IsFileOf me plan facts file × IsOfFacts me facts store.aggregator × IsStoreOf content images me plan facts store × (store.records ≡ length facts)
OpensAs content images me plan file (Err refused) = IsRefused me plan file refused.0

-- the disk, in the store or returned with the refusal
abbrev pub disk_after : {D : Type 0} → Result (StoreState D) (OpenRefusal × D) → D
disk_after (Ok store) = store.log.disk
disk_after (Err refused) = refused.1

-- the count of faults after an opening: it rises if the disk failed, and is unchanged otherwise
abbrev pub OpenCounts : {D : Type 0} → ℕ → (D → ℕ) → Result (StoreState D) (OpenRefusal × D) → Type 0
OpenCounts before faults (Ok store) = faults store.log.disk ≡ before
OpenCounts before faults (Err (Failed, disk)) = Raises before (faults disk)
OpenCounts before faults (Err (NotFormatted, disk)) = faults disk ≡ before
OpenCounts before faults (Err (Foreign aggregator start, disk)) = faults disk ≡ before
OpenCounts before faults (Err (Malformed place, disk)) = faults disk ≡ before
OpenCounts before faults (Err (NoMemory, disk)) = faults disk ≡ before

-- the disk's content is unchanged, in the store, and also if the refusal is about the file
abbrev pub StaysOpened : {D : Type 0} → (content : D → List ℕ) → List ℕ → Result (StoreState D) (OpenRefusal × D) → Type 0
StaysOpened content file (Ok store) = content store.log.disk ≡ file
StaysOpened content file (Err (Failed, disk)) = Unit {0}
StaysOpened content file (Err (NotFormatted, disk)) = content disk ≡ file
StaysOpened content file (Err (Foreign aggregator start, disk)) = content disk ≡ file
StaysOpened content file (Err (Malformed place, disk)) = content disk ≡ file
StaysOpened content file (Err (NoMemory, disk)) = Unit {0}

abbrev pub HasNotFailed : {D : Type 0} → Result (StoreState D) (OpenRefusal × D) → Type 0
HasNotFailed (Ok store) = Unit {0}
HasNotFailed (Err (Failed, disk)) = ⊥
HasNotFailed (Err (NotFormatted, disk)) = Unit {0}
HasNotFailed (Err (Foreign aggregator start, disk)) = Unit {0}
HasNotFailed (Err (Malformed place, disk)) = Unit {0}
HasNotFailed (Err (NoMemory, disk)) = Unit {0}
