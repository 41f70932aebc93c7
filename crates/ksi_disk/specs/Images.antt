-- The bytes that a crash may leave on a disk, now or since a moment.
use Rattle.std.specs.Prelude.{◌≡◌, ◌⊎◌, ℕ, ◌+◌, ◌≤◌, max, List, ◌++◌, length, take, drop}

-- the bytes overwritten by a piece from a place on
abbrev pub laid_over : List ℕ → ℕ → List ℕ → List ℕ
laid_over bytes at piece = take at bytes ++ piece ++ drop (at + length piece) bytes

-- What a crash may leave of bytes if n of them were written at a place since the last sync: any bytes in that range (the part
-- past the old end may be missing), and the bytes outside it unchanged.
pub record Torn (at n : ℕ) (old new : List ℕ) : Type 0 where
  pub before : take at new ≡ take at old
  pub after : drop (at + n) new ≡ drop (at + n) old
  pub no_shorter : length old ≤ length new
  pub no_longer : length new ≤ max (length old) (at + n)

-- each image possible now results from one that was possible before, by one step
abbrev pub Follows : (List ℕ → List ℕ → Type 0) → (List ℕ → Type 0) → (List ℕ → Type 0) → Type 0
Follows step old new = (image : List ℕ) → new image → (before : List ℕ) × old before × step before image

-- each image possible now was possible before
abbrev pub AddsNone : (List ℕ → Type 0) → (List ℕ → Type 0) → Type 0
AddsNone old new = (image : List ℕ) → new image → old image

-- these bytes are the only image
abbrev pub Only : List ℕ → (List ℕ → Type 0) → Type 0
Only bytes images = (image : List ℕ) → images image → image ≡ bytes

-- A crash since a moment may have left an image that was possible before, or one that is possible now.
pub record Elapses (before now : ℕ) (past since : ℕ → List ℕ → Type 0) (images : List ℕ → Type 0) : Type 0 where
  pub later : before ≤ now
  pub nothing_else : (moment : ℕ) (image : List ℕ) → moment ≤ before → since moment image → past moment image ⊎ images image
  pub keeps : (moment : ℕ) (image : List ℕ) → moment ≤ before → past moment image → since moment image

-- A crash at any moment from the old disk to the new one, within calls or between them, leaves an image with P.
pub record LeavesOnly {D : Type 0} (moment : D → ℕ) (images_since : D → ℕ → List ℕ → Type 0) (old new : D) (P : List ℕ → Type 0) : Type 0 where
  pub later : moment old ≤ moment new
  pub each : (image : List ℕ) → images_since new (moment old) image → P image
  -- for calls that began earlier
  pub before : (since : ℕ) (image : List ℕ) → since ≤ moment old → images_since new since image → images_since old since image ⊎ P image
