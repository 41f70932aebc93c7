-- What a disk in memory returns, compared with what a crash may leave of it.
use Rattle.std.specs.Prelude.{◌≡◌, ℕ, ◌+◌, ◌-◌, ◌≤◌, max, nat_le, Bool, true, false, if◌then◌else◌, List, [], ◌∷◌, ◌++◌, length, take, drop, refl}
use Rattle.std.proofs.Common.{inl, inr, ◌∙◌, ap, arith, append_assoc, length-append, length-drop, length-take}
use Rattle.std.proofs.Math.Seq.{drop-append-add}
use Rattle.std.proofs.lemmas.List.{length-replicate, length-take-le, take_at, drop-drop}
use Rattle.std.proofs.lemmas.Bool.Decides.{nat_tests}
use Rattle.ksi_disk.specs.Images.{laid_over, Torn}
use Rattle.ksi_disk.specs.Deeds.{Deed, wrote, synced, reached, content_after, IsImage, IsImageSince, left_of, image_by}
use Rattle.ksi_disk.specs.declared.fate.Fate.{Fate}
use Rattle.ksi_disk.specs.declared.fate.Fate.TheVariants.{Lost, Whole, Front, Filled}

pub torn_not : (at n : ℕ) (bytes : List ℕ) → Torn at n bytes bytes
torn_not at n bytes = record { before = refl; after = refl; no_shorter = omega arith; no_longer = omega arith }

pub length-laid_over : (bytes : List ℕ) (at : ℕ) (piece : List ℕ) → at ≤ length bytes → length (laid_over bytes at piece) ≡ max (length bytes) (at + length piece)
length-laid_over bytes at piece within =
    omega (arith, length-append (take at bytes ++ piece) (drop (at + length piece) bytes), length-append (take at bytes) piece, length-take-le at bytes within, length-drop (at + length piece) bytes)

-- bytes that overwrite only a prefix of a written range make a torn write
pub torn_laid : (at n : ℕ) (bytes piece : List ℕ) → at ≤ length bytes → length piece ≤ n → Torn at n bytes (laid_over bytes at piece)
torn_laid at n bytes piece within short =
    let front = take at bytes ++ piece in
    let rest = drop (at + length piece) bytes in
    let size : length front ≡ at + length piece = omega (arith, length-append (take at bytes) piece, length-take-le at bytes within) in
    let over : at + n ≡ length front + (n - length piece) = omega arith in
    let behind : at + length piece + (n - length piece) ≡ at + n = omega arith in
    record {
      before = ap (λ (l : List ℕ). take at l) (append_assoc (take at bytes) piece rest) ∙ take_at (take at bytes) (piece ++ rest) at (length-take-le at bytes within);
      after = ap (λ (k : ℕ). drop k (front ++ rest)) over ∙ drop-append-add front rest (n - length piece) ∙ drop-drop (n - length piece) (at + length piece) bytes ∙ ap (λ (k : ℕ). drop k bytes) behind;
      no_shorter = omega (arith, length-laid_over bytes at piece within);
      no_longer = omega (arith, length-laid_over bytes at piece within);
    }

pub torn_reached : (at n : ℕ) (bytes piece : List ℕ) → length piece ≤ n → Torn at n bytes (reached bytes at piece)
torn_reached at n bytes piece short = by_test (nat_le at (length bytes)) (λ holds. le_of holds)
  where
    le_of : nat_le at (length bytes) ≡ true → at ≤ length bytes
    le_of holds = grind (arith, nat_tests)

    by_test : (b : Bool) → (b ≡ true → at ≤ length bytes) → Torn at n bytes (if b then laid_over bytes at piece else bytes)
    by_test true within = torn_laid at n bytes piece (within refl) short
    by_test false within = torn_not at n bytes

-- the bytes that a read returns are one of the images
pub content_is_image : (start : List ℕ) (deeds : List Deed) → IsImage start deeds (content_after start deeds)
content_is_image start [] = refl
content_is_image start (wrote at piece true ∷ earlier) = (content_after start earlier, content_is_image start earlier, torn_reached at (length piece) (content_after start earlier) piece (omega arith))
content_is_image start (wrote at piece false ∷ earlier) = (content_after start earlier, content_is_image start earlier, torn_not at (length piece) (content_after start earlier))
content_is_image start (synced ∷ earlier) = refl

pub counts_now : (start : List ℕ) (deeds : List Deed) (since : ℕ) (image : List ℕ) → since ≤ length deeds → IsImage start deeds image → IsImageSince start deeds since image
counts_now start [] since image within left = left
counts_now start (deed ∷ earlier) since image within left = inl left

pub only_now : (start : List ℕ) (deeds : List Deed) (image : List ℕ) → IsImageSince start deeds (length deeds) image → IsImage start deeds image
only_now start [] image left = left
only_now start (deed ∷ earlier) image (inl now) = now
only_now start (deed ∷ earlier) image (inr before) = absurd (omega (arith, before.0))

pub short_left : (fate : Fate) (piece : List ℕ) → length (left_of fate piece) ≤ length piece
short_left Lost piece = omega arith
short_left Whole piece = omega arith
short_left (Front count) piece = omega (arith, length-take count piece)
short_left (Filled byte) piece = omega (arith, length-replicate (length piece) byte)

-- whatever happens to the writes, the result is an image
pub image_by_fate : (fate : Fate) (start : List ℕ) (deeds : List Deed) → IsImage start deeds (image_by fate start deeds)
image_by_fate fate start [] = refl
image_by_fate fate start (wrote at piece succeeded ∷ earlier) =
    (image_by fate start earlier, image_by_fate fate start earlier, torn_reached at (length piece) (image_by fate start earlier) (left_of fate piece) (short_left fate piece))
image_by_fate fate start (synced ∷ earlier) = refl
