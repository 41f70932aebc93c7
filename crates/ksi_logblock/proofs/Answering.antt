-- The answer about a line and a proof, by whether they lead to the kept root.
use Rattle.std.proofs.Common.{◌≡◌, ℕ, List, length, true, false, Ok, refl, sym, ap, ◌∙◌}
use Rattle.std.specs.Str.{bytes_eq}
use Rattle.std.proofs.lemmas.List.{length-map}
use Rattle.ksi_imprint.specs.Imprints.{zero_imprint}
use Rattle.ksi_aggtree.specs.declared.chains.node.Node.{Node}
use Rattle.ksi_aggtree.specs.Rounds.{tree_from}
use Rattle.ksi_logblock.specs.declared.line_proof.LineProof.{LineProof}
use Rattle.ksi_logblock.specs.declared.locating.Located.TheVariants.{NotAccepted}
use Rattle.ksi_logblock.specs.declared.locating.LineRefusal.TheVariants.{RootDiffers}
use Rattle.ksi_logblock.specs.Blocks.{Masked, items_of, leaf_item, leaves_of}
use Rattle.ksi_logblock.specs.Locating.{against_root, compared, kept_root, located}
use Rattle.ksi_logblock.specs.Proofs.{root_by}
use Rattle.ksi_logblock.proofs.Leaves.{leaves_count}

-- the tree of all lines has the kept root
pub kept_is : (image : List ℕ → List ℕ) (block : Masked) (count : ℕ) (x : Node) → count ≡ length block.lines → x ≡ tree_from image (items_of image block) 0 count → x.imprint ≡ kept_root image block
kept_is image block count x c e =
    ap (λ (n : Node). n.imprint) (e ∙ ap (tree_from image (items_of image block) 0) (c ∙ sym (length-map (leaves_of image block) leaf_item ∙ leaves_count image block.seed zero_imprint block.lines)))

module _ (image : List ℕ → List ℕ) (block : Masked) (line : List ℕ) (proof : LineProof) (root kept : List ℕ) (leads : root_by image line proof ≡ Ok root) (is : kept ≡ kept_root image block) where
  against : located image block line proof ≡ against_root image block line proof (Ok root)
  unfolding located
  against = ap (against_root image block line proof) leads

  pub same_located : bytes_eq root kept ≡ true → compared image block line proof ≡ located image block line proof
  same_located e = sym (against ∙ (let same : bytes_eq root (kept_root image block) ≡ true = sym (ap (bytes_eq root) is) ∙ e in rw same refl))

  pub other_located : bytes_eq root kept ≡ false → NotAccepted (RootDiffers root kept) ≡ located image block line proof
  other_located e = ap (λ (x : List ℕ). NotAccepted (RootDiffers root x)) is ∙ sym (against ∙ (let other : bytes_eq root (kept_root image block) ≡ false = sym (ap (bytes_eq root) is) ∙ e in rw other refl))
