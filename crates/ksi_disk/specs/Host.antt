-- A disk over a file of the system, as the list of operations since it was opened.
use Rattle.std.specs.Prelude.{◌≡◌, ℕ, Bool, true, false, not, if◌then◌else◌, List, [], ◌∷◌, length, Option, IfSome}
use Rattle.ksi_ports.specs.Outside.{count_up}
use Rattle.ksi_disk.specs.Deeds.{Deed, wrote, synced, content_after, IsImage, IsImageSince}

-- The operations, newest first, as for a disk in memory, and the number of failed calls. It begins with no bytes: those found
-- in the file count as its first write, which was synced.
pub record HostState : Type 0 where
  pub deeds : List Deed
  pub faults : ℕ

abbrev pub content_of : HostState → List ℕ
content_of disk = content_after [] disk.deeds

-- the bytes that a crash now may leave
abbrev pub images_of : HostState → List ℕ → Type 0
images_of disk = IsImage [] disk.deeds

-- the bytes that a crash may have left since there were n operations
abbrev pub images_since : HostState → ℕ → List ℕ → Type 0
images_since disk = IsImageSince [] disk.deeds

-- a disk over a file in which these bytes were found
abbrev pub found_disk : List ℕ → HostState
found_disk bytes = record { deeds = synced ∷ wrote 0 bytes true ∷ []; faults = 0 }

-- one more fault if a call failed
abbrev pub after_call : HostState → Bool → HostState
after_call disk failed = record disk { faults = if failed then count_up 1 disk.faults else disk.faults }

abbrev pub with_deed : HostState → Deed → HostState
with_deed disk deed = record disk { deeds = deed ∷ disk.deeds }

-- a write is an operation, failed or not
abbrev pub after_write : HostState → ℕ → List ℕ → Bool → HostState
after_write disk at piece failed = with_deed (after_call disk failed) (wrote at piece (not failed))

-- a failed sync is not an operation
abbrev pub after_sync : HostState → Bool → HostState
after_sync disk failed = if failed then after_call disk true else with_deed (after_call disk false) synced

-- the number of bytes, and those found in the file if nothing was written since
pub record IsHostKept (deeds : List Deed) (count : ℕ) (bytes : Option (List ℕ)) : Type 0 where
  pub len : count ≡ length (content_after [] deeds)
  pub found : IfSome bytes (λ all. all ≡ content_after [] deeds)
