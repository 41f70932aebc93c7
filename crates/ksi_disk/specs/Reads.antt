-- Runs of calls that write nothing, and their results.
use Rattle.std.specs.Prelude.{◌≡◌, ℕ, ◌≤◌, ◌<◌, List, [], ◌∷◌, ◌++◌, length, drop, Option, Result, Ok, Err}
use Rattle.ksi_ports.specs.Outside.{Raises}
use Rattle.ksi_disk.specs.Images.{AddsNone, LeavesOnly}
use Rattle.ksi_disk.specs.Costs.{Meter}
use Rattle.ksi_disk.specs.declared.refusal.ReadRefusal.{ReadRefusal}
use Rattle.ksi_disk.specs.declared.refusal.ReadRefusal.TheVariants.{Failed, NoMemory}
use Rattle.ksi_disk.specs.declared.front.Step.{Step}
use Rattle.ksi_disk.specs.declared.front.Step.TheVariants.{Next, End}
use Rattle.ksi_disk.specs.Gates.{behind, ends, reading_at}

-- Nothing was written from the old disk to the new one: a crash at any moment leaves an image that was possible before, and
-- the disk's capacity is unchanged.
pub record WroteNothing {D : Type 0} (images : D → List ℕ → Type 0) (moment : D → ℕ) (images_since : D → ℕ → List ℕ → Type 0) (meter : D → Option Meter) (old new : D) : Type 0 where
  pub no_image : AddsNone (images old) (images new)
  pub any_moment : LeavesOnly moment images_since old new (images old)
  pub unspent : meter new ≡ meter old

-- the count of faults after reads: it rises if one failed, and is unchanged otherwise
abbrev pub ReadCounts : {T : Type 0} → ℕ → ℕ → Result T ReadRefusal → Type 0
ReadCounts before now (Ok value) = now ≡ before
ReadCounts before now (Err Failed) = Raises before now
ReadCounts before now (Err NoMemory) = now ≡ before

-- NoMemory only if this holds
abbrev pub IfWanting : {T : Type 0} → Result T ReadRefusal → Type 0 → Type 0
IfWanting (Ok value) holds = Unit {0}
IfWanting (Err Failed) holds = Unit {0}
IfWanting (Err NoMemory) holds = holds

-- a step of reading a file: one more record, and the place of the next commit byte; or the ending
abbrev pub IsStep : List ℕ → ℕ → List (List ℕ) → List (List ℕ) → Step → Type 0
IsStep file place old new (Next next) =
    (content : List ℕ) × (new ≡ old ++ content ∷ []) × (reading_at place (drop place file) ≡ behind (content ∷ []) (reading_at next (drop next file))) × (place < next) × (next ≤ length file)
IsStep file place old new (End ending) = (new ≡ old) × (reading_at place (drop place file) ≡ ends ending)
