-- The tree and the chains of a block's items, over its leaves.
use Rattle.std.proofs.Common.{◌≡◌, ℕ, zero, suc, ◌^◌, ◌<◌, ◌≤◌, List, [], ◌++◌, length, get_or, map, Some, refl, ap, ◌∙◌, sym, arith}
use Rattle.std.proofs.lemmas.List.{get_or-map, length-map}
use Rattle.ksi_split.specs.Trees.{tree, tree_within, path_of, path_within}
use Rattle.ksi_aggtree.specs.declared.chains.node.Node.{Node}
use Rattle.ksi_aggtree.specs.declared.item.Item.{Item}
use Rattle.ksi_aggtree.specs.Paths.{links_from, name_links, chain_of}
use Rattle.ksi_aggtree.specs.Rounds.{aggregation_join, leaf, leaf_of_place, item_at, no_item, root_from, root_of, tree_of, tree_path}
use Rattle.ksi_logblock.specs.Blocks.{Masked, items_of, leaf_item, leaves_of, block_root}
use Rattle.ksi_imprint.specs.Imprints.{zero_imprint}
use Rattle.ksi_logblock.proofs.Leaves.{leaves_count}

abbrev pub TreesFit : Type 0
TreesFit = (join : Node → Node → Node) (leaf : ℕ → Node) (k lo n : ℕ) → n ≤ 2 ^ k → tree join leaf lo n ≡ tree_within join leaf k lo n

abbrev pub PathsFit : Type 0
PathsFit = (join : Node → Node → Node) (leaf : ℕ → Node) (k lo t n : ℕ) → n ≤ 2 ^ k → path_of join leaf lo t n ≡ path_within join leaf k lo t n

pub item_is : (leaves : List (List ℕ)) (k : ℕ) (d : List ℕ) → k < length leaves → item_at (map leaf_item leaves) k ≡ leaf_item (get_or leaves k d)
item_is leaves k d within = get_or-map leaf_item leaves k d no_item within

some_root : (n : ℕ) (x : Node) → 0 < n → root_from n x ≡ Some x
some_root zero x some = absurd (omega (arith, some))
some_root (suc n) x some = refl

pub block_some : (image : List ℕ → List ℕ) (block : Masked) → 0 < length block.lines → block_root image block ≡ Some (tree_of image (items_of image block))
block_some image block some =
    let n = length-map (leaves_of image block) leaf_item ∙ leaves_count image block.seed zero_imprint block.lines in
    some_root (length (items_of image block)) (tree_of image (items_of image block)) (omega (arith, n, some))

module _ (image : List ℕ → List ℕ) where
  abbrev pub within : List (List ℕ) → Node
  within leaves = tree_within (aggregation_join image) (leaf_of_place image (map leaf_item leaves)) 16 0 (length leaves)

  pub tree_is : (leaves : List (List ℕ)) → TreesFit → length leaves ≤ 65536 → within leaves ≡ tree_of image (map leaf_item leaves)
  tree_is leaves fits few =
      let join = aggregation_join image in
      let at = leaf_of_place image (map leaf_item leaves) in
      sym (fits join at 16 0 (length leaves) few) ∙ ap (λ (n : ℕ). tree join at 0 n) (sym (length-map leaves leaf_item))

  pub root_is : (leaves : List (List ℕ)) (block : Masked) (x : Node) → leaves ≡ leaves_of image block → TreesFit → 0 < length leaves → length leaves ≤ 65536 → x ≡ within leaves → Some x ≡ block_root image block
  root_is leaves block x is fits some few e =
      let n = length-map leaves leaf_item in
      ap (λ (x : Node). Some x) (e ∙ tree_is leaves fits few)
      ∙ sym (some_root (length (map leaf_item leaves)) (tree_of image (map leaf_item leaves)) (omega (arith, n, some)))
      ∙ ap (λ (l : List (List ℕ)). root_of image (map leaf_item l)) is

  pub chain_is : (leaves : List (List ℕ)) (k : ℕ) → PathsFit → k < length leaves → length leaves ≤ 65536
      → chain_of image (map leaf_item leaves) k ≡ links_from 1 (path_within (aggregation_join image) (leaf_of_place image (map leaf_item leaves)) 16 0 k (length leaves))
  chain_is leaves k fits there few =
      let join = aggregation_join image in
      let items = map leaf_item leaves in
      let at = leaf_of_place image items in
      ap (λ (x : Item). name_links x.name ++ links_from (leaf image x).level (tree_path image items k)) (item_is leaves k [] there)
      ∙ ap (links_from 1) (ap (path_of join at 0 k) (length-map leaves leaf_item) ∙ fits join at 16 0 k (length leaves) few)
