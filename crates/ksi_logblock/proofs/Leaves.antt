-- The leaves of lines: how many, the one of each line, and one more.
use Rattle.std.proofs.Common.{◌≡◌, ℕ, zero, suc, ◌<◌, List, [], ◌∷◌, ◌++◌, length, get_or, refl, ap, sym, ◌∙◌, arith}
use Rattle.ksi_imprint.specs.Imprints.{zero_imprint}
use Rattle.ksi_logblock.specs.Blocks.{leaf_text, mask_among, leaf_behind, leaves_behind}

module _ (image : List ℕ → List ℕ) (seed : List ℕ) where
  pub leaves_count : (before : List ℕ) (lines : List (List ℕ)) → length (leaves_behind image seed before lines) ≡ length lines
  leaves_count before [] = refl
  leaves_count before (line ∷ lines) = ap suc (leaves_count (leaf_behind image seed before line) lines)

  -- the leaf of each line is that behind the one before it
  pub leaf_here : (before : List ℕ) (lines : List (List ℕ)) (k : ℕ) (d : List ℕ) → k < length lines
      → get_or (leaves_behind image seed before lines) k d ≡ leaf_behind image seed (get_or (before ∷ leaves_behind image seed before lines) k d) (get_or lines k [])
  leaf_here before [] k d within = absurd (omega (arith, within))
  leaf_here before (line ∷ lines) zero d within = refl
  leaf_here before (line ∷ lines) (suc k) d within = leaf_here (leaf_behind image seed before line) lines k d (omega (arith, within))

  -- one line more has one leaf more, behind the last
  pub leaves_more : (before : List ℕ) (lines : List (List ℕ)) (line d : List ℕ)
      → leaves_behind image seed before (lines ++ line ∷ []) ≡ leaves_behind image seed before lines ++ leaf_behind image seed (get_or (before ∷ leaves_behind image seed before lines) (length lines) d) line ∷ []
  leaves_more before [] line d = refl
  leaves_more before (first ∷ lines) line d = ap (λ (leaves : List (List ℕ)). leaf_behind image seed before first ∷ leaves) (leaves_more (leaf_behind image seed before first) lines line d)

  -- what is kept, with the leaf of one line more
  pub more_leaves : (lines : List (List ℕ)) (line : List ℕ) (leaves : List (List ℕ)) (mask : List ℕ) → leaves ≡ leaves_behind image seed zero_imprint lines → mask ≡ mask_among image seed leaves (length leaves)
      → leaves ++ image (leaf_text image mask line) ∷ [] ≡ leaves_behind image seed zero_imprint (lines ++ line ∷ [])
  more_leaves lines line leaves mask e m =
      let count : length leaves ≡ length lines = ap length e ∙ leaves_count zero_imprint lines in
      let same : mask ≡ mask_among image seed (leaves_behind image seed zero_imprint lines) (length lines) = m ∙ ap (λ (k : ℕ). mask_among image seed leaves k) count ∙ ap (λ (l : List (List ℕ)). mask_among image seed l (length lines)) e in
      ap (λ (l : List (List ℕ)). l ++ image (leaf_text image mask line) ∷ []) e
      ∙ ap (λ (m : List ℕ). leaves_behind image seed zero_imprint lines ++ image (leaf_text image m line) ∷ []) same
      ∙ sym (leaves_more zero_imprint lines line zero_imprint)
