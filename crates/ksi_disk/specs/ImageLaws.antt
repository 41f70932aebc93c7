-- How runs of calls compose.
use Rattle.std.specs.Prelude.{ℕ, List}
use Rattle.std.proofs.Common.{inl, inr, ⊎_elim, arith}
use Rattle.ksi_disk.specs.Images.{Elapses, LeavesOnly}

module _ {D : Type 0} (moment : D → ℕ) (images_since : D → ℕ → List ℕ → Type 0) where
  -- before the first call
  pub leaves_now : (old : D) (P : List ℕ → Type 0) → ((image : List ℕ) → images_since old (moment old) image → P image) → LeavesOnly moment images_since old old P
  leaves_now old P here = record { later = omega arith; each = here; before = λ since image within left. inl left }

  -- one more call, after which P holds for each image
  pub leaves_on : (old mid new : D) (P images : List ℕ → Type 0) → LeavesOnly moment images_since old mid P → Elapses (moment mid) (moment new) (images_since mid) (images_since new) images
      → ((image : List ℕ) → images image → P image) → LeavesOnly moment images_since old new P
  leaves_on old mid new P images so_far time here = record {
    later = omega (arith, so_far.later, time.later);
    each = λ image left. ⊎_elim (so_far.each image) (here image) (time.nothing_else (moment old) image so_far.later left);
    before = λ since image within left. ⊎_elim (so_far.before since image within) (λ now. inr (here image now)) (time.nothing_else since image (omega (arith, within, so_far.later)) left);
  }

  -- one run, followed by another
  pub leaves_then : (old mid new : D) (P : List ℕ → Type 0) → LeavesOnly moment images_since old mid P → LeavesOnly moment images_since mid new P → LeavesOnly moment images_since old new P
  leaves_then old mid new P first second = record {
    later = omega (arith, first.later, second.later);
    each = λ image left. ⊎_elim (first.each image) (λ now. now) (second.before (moment old) image first.later left);
    before = λ since image within left. ⊎_elim (first.before since image within) (λ now. inr now) (second.before since image (omega (arith, within, first.later)) left);
  }

  -- P implies Q
  pub leaves_more : (old new : D) (P Q : List ℕ → Type 0) → LeavesOnly moment images_since old new P → ((image : List ℕ) → P image → Q image) → LeavesOnly moment images_since old new Q
  leaves_more old new P Q run more = record {
    later = run.later;
    each = λ image left. more image (run.each image left);
    before = λ since image within left. ⊎_elim (λ past. inl past) (λ now. inr (more image now)) (run.before since image within left);
  }
