-- What the trait asks of a sync, of a disk in memory.
use Rattle.std.specs.List.{list_any}
use Rattle.std.proofs.Common.{◌≡◌, ◌⊎◌, inl, inr, ℕ, ◌+◌, ◌-◌, ◌≤◌, Bool, true, false, ◌||◌, ◌==◌, if◌then◌else◌, List, [], ◌∷◌, length, Result, Ok, Err, is_err, IsOk, OnOk, refl, sym, subst, arith}
use Rattle.std.proofs.lemmas.Bool.Decides.{nat_tests}
use Rattle.ksi_disk.specs.declared.disk.DiskFailed.{DiskFailed}
use Rattle.ksi_disk.specs.Images.{Elapses, AddsNone, Only}
use Rattle.ksi_disk.specs.Costs.{Affords, Spends}
use Rattle.ksi_disk.specs.Deeds.{Deed, synced, StoredDisk, IsImage, IsImageSince, content_of, after_call, with_deed, sync_fails, meter_unless, meter_of}
use Rattle.ksi_disk.specs.DeedLaws.{content_is_image}

-- no deed more
pub elapses_same : (start : List ℕ) (deeds : List Deed) → Elapses (length deeds) (length deeds) (IsImageSince start deeds) (IsImageSince start deeds) (IsImage start deeds)
elapses_same start deeds = record { later = omega arith; nothing_else = λ since image within left. inl left; keeps = λ since image within left. left }

-- a deed more
pub elapses_deed : (start : List ℕ) (deed : Deed) (deeds : List Deed) → Elapses (length deeds) (length (deed ∷ deeds)) (IsImageSince start deeds) (IsImageSince start (deed ∷ deeds)) (IsImage start (deed ∷ deeds))
elapses_deed start deed deeds = record { later = omega arith; nothing_else = λ since image within left. was since image left; keeps = λ since image within left. inr (within, left) }
  where
    was : (since : ℕ) (image : List ℕ) → IsImageSince start (deed ∷ deeds) since image → IsImageSince start deeds since image ⊎ IsImage start (deed ∷ deeds) image
    was since image (inl now) = inr now
    was since image (inr before) = inl before.1

pub spends : (failing : List ℕ) (bytes turns old_room old_turns room left : ℕ) → old_room ≤ room + bytes → old_turns ≤ left + turns → Spends bytes turns (meter_unless failing old_room old_turns) (meter_unless failing room left)
spends [] bytes turns old_room old_turns room left by_bytes by_turns = (by_bytes, by_turns)
spends (call ∷ calls) bytes turns old_room old_turns room left by_bytes by_turns = refl

pub affords_none_listed : (failing : List ℕ) (bytes turns room left : ℕ) → Affords bytes turns (meter_unless failing room left) → failing ≡ []
affords_none_listed [] bytes turns room left affords = refl
affords_none_listed (call ∷ calls) bytes turns room left affords = absurd affords

pub affords_turns : (failing : List ℕ) (bytes turns room left : ℕ) → Affords bytes turns (meter_unless failing room left) → turns ≤ left
affords_turns [] bytes turns room left affords = affords.1
affords_turns (call ∷ calls) bytes turns room left affords = absurd affords

-- the disk after a sync, which fails or not
abbrev pub synced_unless : Bool → StoredDisk → StoredDisk
synced_unless fails disk = if fails then after_call disk true else with_deed (after_call disk false) synced 0

abbrev ImagesOf : StoredDisk → List ℕ → Type 0
ImagesOf disk image = IsImage disk.start disk.deeds image

abbrev ElapsesFrom : StoredDisk → StoredDisk → Type 0
ElapsesFrom old new = Elapses (length old.deeds) (length new.deeds) (λ since image. IsImageSince old.start old.deeds since image) (λ since image. IsImageSince new.start new.deeds since image) (λ image. IsImage new.start new.deeds image)

pub sync_durable : (old new : StoredDisk) (result : Result (Unit {0}) DiskFailed) (fails : Bool) → is_err result ≡ fails → new ≡ synced_unless fails old → OnOk result (Only (content_of old) (ImagesOf new))
sync_durable old new (Err failed) fails answers after = tt
sync_durable old new (Ok u) true answers after = absurd (cc answers)
sync_durable old new (Ok u) false answers after = subst (λ (disk : StoredDisk). Only (content_of old) (ImagesOf disk)) (sym after) (λ image left. left)

pub sync_stays : (old new : StoredDisk) (result : Result (Unit {0}) DiskFailed) (fails : Bool) → is_err result ≡ fails → new ≡ synced_unless fails old → OnOk result (content_of new ≡ content_of old)
sync_stays old new (Err failed) fails answers after = tt
sync_stays old new (Ok u) true answers after = absurd (cc answers)
sync_stays old new (Ok u) false answers after = subst (λ (disk : StoredDisk). content_of disk ≡ content_of old) (sym after) refl

pub sync_no_image : (old new : StoredDisk) (fails : Bool) → new ≡ synced_unless fails old → AddsNone (ImagesOf old) (ImagesOf new)
sync_no_image old new true after = subst (λ (disk : StoredDisk). AddsNone (ImagesOf old) (ImagesOf disk)) (sym after) (λ image left. left)
sync_no_image old new false after =
    subst (λ (disk : StoredDisk). AddsNone (ImagesOf old) (ImagesOf disk)) (sym after) (λ image left. subst (ImagesOf old) (sym left) (content_is_image old.start old.deeds))

pub sync_time : (old new : StoredDisk) (fails : Bool) → new ≡ synced_unless fails old → ElapsesFrom old new
sync_time old new true after = subst (ElapsesFrom old) (sym after) (elapses_same old.start old.deeds)
sync_time old new false after = subst (ElapsesFrom old) (sym after) (elapses_deed old.start synced old.deeds)

pub sync_spent : (old new : StoredDisk) (fails : Bool) → new ≡ synced_unless fails old → Spends 0 1 (meter_of old) (meter_of new)
sync_spent old new true after = subst (λ (disk : StoredDisk). Spends 0 1 (meter_of old) (meter_of disk)) (sym after) (spends old.failing 0 1 old.room old.turns old.room old.turns (omega arith) (omega arith))
sync_spent old new false after =
    subst (λ (disk : StoredDisk). Spends 0 1 (meter_of old) (meter_of disk)) (sym after) (spends old.failing 0 1 old.room old.turns (old.room - 0) (old.turns - 1) (omega arith) (omega arith))

not_listed : (failing : List ℕ) (calls turns : ℕ) → failing ≡ [] → 1 ≤ turns → (list_any (λ listed. listed == calls) failing || turns == 0) ≡ false
not_listed [] calls turns none some = grind (arith, nat_tests)
not_listed (call ∷ failing) calls turns none some = absurd (cc none)

pub sync_sure : (old : StoredDisk) (result : Result (Unit {0}) DiskFailed) → is_err result ≡ sync_fails old → Affords 0 1 (meter_of old) → IsOk result
sync_sure old (Ok u) answers affords = refl
sync_sure old (Err failed) answers affords =
    let none = affords_none_listed old.failing 0 1 old.room old.turns affords in
    let some = affords_turns old.failing 0 1 old.room old.turns affords in
    let not : sync_fails old ≡ false = not_listed old.failing old.calls old.turns none some in
    absurd (cc (answers, not))
