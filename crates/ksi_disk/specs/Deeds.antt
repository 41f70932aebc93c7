-- A disk in memory, as the list of operations on it.
use Rattle.std.specs.Prelude.{◌≡◌, ◌⊎◌, ℕ, ◌+◌, ◌-◌, ◌≤◌, nat_le, nat_lt, ◌==◌, ◌||◌, not, Bool, true, false, if◌then◌else◌, List, [], ◌∷◌, length, take, drop, replicate, Option, Some, None}
use Rattle.ksi_disk.specs.declared.marks.Mark.{Mark}
use Rattle.ksi_disk.specs.declared.marks.Mark.TheVariants.{Wrote, Synced}
use Rattle.ksi_disk.specs.declared.fate.Fate.{Fate}
use Rattle.ksi_disk.specs.declared.fate.Fate.TheVariants.{Lost, Whole, Front, Filled}
use Rattle.ksi_disk.specs.Images.{laid_over, Torn}
use Rattle.ksi_disk.specs.Costs.{Meter}
use Rattle.ksi_ports.specs.Outside.{count_up}
use Rattle.ksi_ports.specs.Memory.{is_listed}

-- an operation: a piece was written at a place, by a call that succeeded or failed; or everything was synced
pub data Deed : Type 0 where
  wrote : ℕ → List ℕ → Bool → Deed
  synced : Deed

-- a piece changes bytes only if its place is inside them or at their end
abbrev pub reached : List ℕ → ℕ → List ℕ → List ℕ
reached bytes at piece = if nat_le at (length bytes) then laid_over bytes at piece else bytes

-- the bytes that a read returns after one more operation: a failed write is not seen
abbrev pub read_after : List ℕ → Deed → List ℕ
read_after content (wrote at piece true) = reached content at piece
read_after content (wrote at piece false) = content
read_after content synced = content

-- the bytes that a read returns after these operations, newest first, on a disk created with `bytes`
abbrev pub content_after : List ℕ → List Deed → List ℕ
content_after start [] = start
content_after start (deed ∷ earlier) = read_after (content_after start earlier) deed

-- The bytes that a crash may leave after these operations: each write since the last sync may be torn, failed or not.
abbrev pub IsImage : List ℕ → List Deed → List ℕ → Type 0
IsImage start [] image = image ≡ start
IsImage start (wrote at piece succeeded ∷ earlier) image = (before : List ℕ) × IsImage start earlier before × Torn at (length piece) before image
IsImage start (synced ∷ earlier) image = image ≡ content_after start earlier

-- the bytes that a crash may have left since there were n operations
abbrev pub IsImageSince : List ℕ → List Deed → ℕ → List ℕ → Type 0
IsImageSince start [] moment image = IsImage start [] image
IsImageSince start (deed ∷ earlier) moment image = IsImage start (deed ∷ earlier) image ⊎ ((moment ≤ length earlier) × IsImageSince start earlier moment image)

-- the first n operations, newest first
abbrev pub deeds_at : ℕ → List Deed → List Deed
deeds_at moment deeds = drop (length deeds - moment) deeds

-- the part of a piece that remains after this fate
abbrev pub left_of : Fate → List ℕ → List ℕ
left_of Lost piece = []
left_of Whole piece = piece
left_of (Front count) piece = take count piece
left_of (Filled byte) piece = replicate (length piece) byte

-- the image after one more operation, if written bytes have this fate until they are synced
abbrev pub left_after : Fate → (content image : List ℕ) → Deed → List ℕ
left_after fate content image (wrote at piece succeeded) = reached image at (left_of fate piece)
left_after fate content image synced = content

-- the image in which each write since the last sync has this fate
abbrev pub image_by : Fate → List ℕ → List Deed → List ℕ
image_by fate start [] = start
image_by fate start (deed ∷ earlier) = left_after fate (content_after start earlier) (image_by fate start earlier) deed

-- operations, followed by those of marks whose pieces are concatenated
abbrev pub deeds_onto : List Deed → List Mark → List ℕ → List Deed
deeds_onto earlier [] pieces = earlier
deeds_onto earlier (Wrote at count succeeded ∷ marks) pieces = deeds_onto (wrote at (take count pieces) succeeded ∷ earlier) marks (drop count pieces)
deeds_onto earlier (Synced ∷ marks) pieces = deeds_onto (synced ∷ earlier) marks pieces

-- the operation of a mark whose piece comes first
abbrev pub deed_of : Mark → List ℕ → Deed
deed_of (Wrote at count succeeded) pieces = wrote at (take count pieces) succeeded
deed_of Synced pieces = synced

-- the length of the pieces of marks
abbrev pub pieces_length : List Mark → ℕ
pieces_length [] = 0
pieces_length (Wrote at count succeeded ∷ marks) = count + pieces_length marks
pieces_length (Synced ∷ marks) = pieces_length marks

-- A disk in memory: its initial bytes; the operations on it, newest first; the numbers of the calls that are to fail, counted
-- from 0; the number of calls so far; the number that failed; the bytes, and the writes and syncs, that it still accepts.
pub record StoredDisk : Type 0 where
  pub start : List ℕ
  pub deeds : List Deed
  pub failing : List ℕ
  pub calls : ℕ
  pub faults : ℕ
  pub room : ℕ
  pub turns : ℕ

abbrev pub content_of : StoredDisk → List ℕ
content_of disk = content_after disk.start disk.deeds

-- the next call is one of those that are to fail
abbrev pub is_next_listed : StoredDisk → Bool
is_next_listed disk = is_listed disk.failing disk.calls

-- a disk without listed failures reports its capacity
abbrev pub meter_unless : List ℕ → ℕ → ℕ → Option Meter
meter_unless [] room turns = Some (record { room = room; turns = turns })
meter_unless (call ∷ calls) room turns = None

abbrev pub meter_of : StoredDisk → Option Meter
meter_of disk = meter_unless disk.failing disk.room disk.turns

-- a disk without operations
abbrev pub new_disk : List ℕ → ℕ → ℕ → List ℕ → StoredDisk
new_disk start room turns failing = record { start = start; deeds = []; failing = failing; calls = 0; faults = 0; room = room; turns = turns }

-- a disk that accepts this many bytes, and this many writes and syncs, from now on
abbrev pub with_room : StoredDisk → ℕ → ℕ → StoredDisk
with_room disk room turns = record disk { room = room; turns = turns }

-- one more call, and one more fault if it failed
abbrev pub after_call : StoredDisk → Bool → StoredDisk
after_call disk failed = record disk { calls = count_up 1 disk.calls; faults = if failed then count_up 1 disk.faults else disk.faults }

-- there is no space for a piece, or no call is left
abbrev pub is_full : StoredDisk → ℕ → Bool
is_full disk count = disk.turns == 0 || nat_lt disk.room count

-- an operation uses up a call, and space for its bytes
abbrev pub with_deed : StoredDisk → Deed → ℕ → StoredDisk
with_deed disk deed count = record disk { deeds = deed ∷ disk.deeds; room = disk.room - count; turns = disk.turns - 1 }

-- a write fails if it is listed, or if there is no space or no call left
abbrev pub write_fails : StoredDisk → List ℕ → Bool
write_fails disk piece = is_next_listed disk || is_full disk (length piece)

-- a write without space or calls left writes nothing; any other is an operation
abbrev pub after_write : StoredDisk → ℕ → List ℕ → StoredDisk
after_write disk at piece =
    if is_full disk (length piece) then after_call disk true
    else with_deed (after_call disk (is_next_listed disk)) (wrote at piece (not (is_next_listed disk))) (length piece)

-- a sync fails if it is listed or no call is left, and then does nothing
abbrev pub sync_fails : StoredDisk → Bool
sync_fails disk = is_next_listed disk || disk.turns == 0

abbrev pub after_sync : StoredDisk → StoredDisk
after_sync disk = if sync_fails disk then after_call disk true else with_deed (after_call disk false) synced 0

-- The content, and the pieces of the marks, are those of the operations.
pub record IsKept (start content : List ℕ) (marks : List Mark) (pieces : List ℕ) : Type 0 where
  pub seen : content ≡ content_after start (deeds_onto [] marks pieces)
  pub whole : pieces_length marks ≡ length pieces
