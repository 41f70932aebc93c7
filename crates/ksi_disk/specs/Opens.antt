-- The result of opening a log.
use Rattle.std.specs.Prelude.{◌≡◌, ◌<◌, ℕ, List, length, Result, Ok, Err}
use Rattle.ksi_ports.specs.Outside.{Raises}
use Rattle.ksi_disk.specs.declared.ending.Ending.TheVariants as ending
use Rattle.ksi_disk.specs.declared.opened.Opened.{Opened}
use Rattle.ksi_disk.specs.declared.opened.OpenRefusal.{OpenRefusal}
use Rattle.ksi_disk.specs.declared.opened.OpenRefusal.TheVariants.{Failed, NoMemory, Broken}
use Rattle.ksi_disk.specs.Gates.{reading_of}
use Rattle.ksi_disk.specs.Logs.{IsSettled}

-- a log was opened: it is settled, its file is unchanged, and these are its records
pub record IsOpened {D : Type 0} (content : D → List ℕ) (images : D → List ℕ → Type 0) (from : ℕ) (file : List ℕ) (opened : Opened D) : Type 0 where
  pub settled : IsSettled content images opened.log
  pub header : opened.log.from ≡ from
  pub stays : content opened.log.disk ≡ file
  pub read : opened.records ≡ (reading_of from file).records

-- the result for a file: its log, or the place where it is broken; NoMemory only if it has a record
abbrev pub OpensAs : {D : Type 0} → (content : D → List ℕ) (images : D → List ℕ → Type 0) (from : ℕ) (file : List ℕ) → Result (Opened D) (OpenRefusal × D) → Type 0
OpensAs content images from file (Ok opened) = IsOpened content images from file opened
OpensAs content images from file (Err (Failed, disk)) = Unit {0}
OpensAs content images from file (Err (NoMemory, disk)) = 0 < length (reading_of from file).records
OpensAs content images from file (Err (Broken place, disk)) = (reading_of from file).ending ≡ ending.Broken place

-- the disk, in the log or returned with the refusal
abbrev pub disk_after : {D : Type 0} → Result (Opened D) (OpenRefusal × D) → D
disk_after (Ok opened) = opened.log.disk
disk_after (Err refused) = refused.1

-- the count of faults after an opening: it rises if the disk failed, and is unchanged otherwise
abbrev pub OpenCounts : {D : Type 0} → ℕ → (D → ℕ) → Result (Opened D) (OpenRefusal × D) → Type 0
OpenCounts before faults (Ok opened) = faults opened.log.disk ≡ before
OpenCounts before faults (Err (Failed, disk)) = Raises before (faults disk)
OpenCounts before faults (Err (NoMemory, disk)) = faults disk ≡ before
OpenCounts before faults (Err (Broken place, disk)) = faults disk ≡ before

abbrev pub HasNotFailed : {D : Type 0} → Result (Opened D) (OpenRefusal × D) → Type 0
HasNotFailed (Ok opened) = Unit {0}
HasNotFailed (Err (Failed, disk)) = ⊥
HasNotFailed (Err (NoMemory, disk)) = Unit {0}
HasNotFailed (Err (Broken place, disk)) = Unit {0}
