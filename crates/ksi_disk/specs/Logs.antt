-- A log on a disk, and the images that a crash may leave of it.
use Rattle.std.specs.Prelude.{◌≡◌, ◌⊎◌, ℕ, ◌+◌, ◌<◌, ◌^◌, false, List, [], ◌∷◌, ◌++◌, length, take, drop}
use Rattle.ksi_disk.specs.Images.{Only}
use Rattle.ksi_disk.specs.declared.ending.Ending.TheVariants.{Closed}
use Rattle.ksi_disk.specs.declared.log.GateLog.{GateLog}
use Rattle.ksi_disk.specs.Gates.{behind_gate, reading_of}

-- the log's file is durable, its records end at the current commit byte, and no call of the log has failed
pub record IsSettled {D : Type 0} (content : D → List ℕ) (images : D → List ℕ → Type 0) (log : GateLog D) : Type 0 where
  pub durable : Only (content log.disk) (images log.disk)
  pub standing : (reading_of log.from (content log.disk)).ending ≡ Closed log.gate
  pub within : log.gate + 1 < 2 ^ 64
  pub fresh : log.is_spent ≡ false

-- it is settled, or a call of it has failed
abbrev pub IsLog : {D : Type 0} → (content : D → List ℕ) (images : D → List ℕ → Type 0) (log : GateLog D) → Type 0
IsLog content images log = log.is_spent ≡ false → IsSettled content images log

-- a file with this header opens to these records: the commit byte after them is closed, and the rest is not looked at
pub record OpensTo (from : ℕ) (header : List ℕ) (records : List (List ℕ)) (file : List ℕ) : Type 0 where
  pub gate : ℕ
  pub head : take from file ≡ header
  pub kept : (reading_of from file).records ≡ records
  pub closed : (reading_of from file).ending ≡ Closed gate

-- a file opens to the records of another, with or without one more
abbrev pub IsBeforeOrAfter : ℕ → List ℕ → List ℕ → List ℕ → Type 0
IsBeforeOrAfter from old content file =
    OpensTo from (take from old) (reading_of from old).records file
    ⊎ OpensTo from (take from old) ((reading_of from old).records ++ content ∷ []) file

-- a file opens to the records of another and one more
abbrev pub IsAfter : ℕ → List ℕ → List ℕ → List ℕ → Type 0
IsAfter from old content file = OpensTo from (take from old) ((reading_of from old).records ++ content ∷ []) file

-- The commit bytes that an image reaches through open ones alone, while a record is appended at the current commit byte of a
-- file. Until that byte may be open, it is closed in every image, and all bytes before it are unchanged. From then on, the
-- whole record and a closed commit byte follow it in every image.
abbrev pub GatesStand : ℕ → List ℕ → List ℕ → (List ℕ → Type 0) → Type 0
GatesStand gate file content images =
    ((image : List ℕ) → images image → take (gate + 1) image ≡ take (gate + 1) file)
    ⊎ ((image : List ℕ) → images image → (take gate image ≡ take gate file) × (take (length (behind_gate content)) (drop (gate + 1) image) ≡ behind_gate content))
