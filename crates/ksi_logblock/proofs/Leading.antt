-- Each proof of a block leads to its root, along its line's way.
use Rattle.std.proofs.Common.{◌≡◌, ℕ, zero, suc, ◌<◌, ◌≤◌, List, [], ◌∷◌, ◌++◌, length, map, reverse, append-nil, Result, Ok, Err, refl, sym, ap, ap₂, ◌∙◌, arith}
use Rattle.std.specs.Prelude.{IfOk, ◌↔◌}
use Rattle.std.proofs.lemmas.List.{length-map}
use Rattle.ksi_imprint.specs.Imprints.{zero_imprint}
use Rattle.ksi_split.specs.declared.side.Side.{Side}
use Rattle.ksi_split.specs.Ways.{way_of}
use Rattle.ksi_aggtree.specs.Links.{PlainLink}
use Rattle.ksi_aggtree.specs.Climbing.{Climbs, climbed}
use Rattle.ksi_aggtree.specs.Owned.{plain_links}
use Rattle.ksi_aggtree.specs.declared.chains.link.Link.{Link}
use Rattle.ksi_aggtree.specs.declared.chains.node.Node.{Node}
use Rattle.ksi_aggtree.specs.declared.item.Item.{Item}
use Rattle.ksi_aggtree.specs.Paths.{chain_of, item_way, name_sides, sides_from_top}
use Rattle.ksi_aggtree.specs.Rounds.{IsRound, as_node, item_at, leaf_level, tree_of}
use Rattle.ksi_logblock.specs.declared.line_proof.LineLink.{LineLink}
use Rattle.ksi_logblock.specs.declared.line_proof.LineProof.{LineProof}
use Rattle.ksi_logblock.specs.Blocks.{Masked, items_of, leaf_item, leaves_of, line_at, mask_at}
use Rattle.ksi_logblock.specs.Links.{line_link_of, plain_line_links, sides_of}
use Rattle.ksi_logblock.specs.Locating.{kept_root}
use Rattle.ksi_logblock.specs.Proofs.{imprint_or_fault, leaf_node, own_proof, root_by}
use Rattle.ksi_logblock.proofs.Leaves.{leaf_here, leaves_count}
use Rattle.ksi_logblock.proofs.Roots.{item_is}

pub ok_both : {A E : Type 0} (r : Result A E) (P Q R : A → Type 0) → IfOk r P → IfOk r Q → ((x : A) → P x → Q x → R x) → IfOk r R
ok_both (Ok x) P Q R p q both = both x p q
ok_both (Err fault) P Q R p q both = tt

item_low : (leaves : List (List ℕ)) (k : ℕ) → leaf_level (item_at (map leaf_item leaves) k) ≤ 239
item_low [] k = omega arith
item_low (leaf ∷ leaves) zero = omega arith
item_low (leaf ∷ leaves) (suc k) = item_low leaves k

line_sides : (links : List LineLink) → map (λ (link : LineLink). link.side) links ≡ map (λ (link : PlainLink). link.side) (plain_line_links links)
line_sides [] = refl
line_sides (link ∷ links) = ap (λ (sides : List Side). link.side ∷ sides) (line_sides links)

chain_sides : (links : List Link) → map (λ (link : PlainLink). link.side) (plain_links links) ≡ map (λ (link : Link). link.side) links
chain_sides [] = refl
chain_sides (link ∷ links) = ap (λ (sides : List Side). link.side ∷ sides) (chain_sides links)

-- the links of a proof, from what climbing sees of them
links_again : (links : List LineLink) → map line_link_of (plain_line_links links) ≡ links
links_again [] = refl
links_again (link ∷ links) = ap (λ (others : List LineLink). link ∷ others) (links_again links)

pub own_led : (image : List ℕ → List ℕ) (block : Masked) (proof : LineProof) (k : ℕ) → proof.mask ≡ mask_at image block k → plain_line_links proof.links ≡ plain_links (chain_of image (items_of image block) k) → proof ≡ own_proof image block k
own_led image block proof k mask links =
    ap₂ (λ (m : List ℕ) (l : List LineLink). record { mask = m; links = l }) mask (sym (links_again proof.links) ∙ ap (map line_link_of) links)

module _ (image : List ℕ → List ℕ) (block : Masked) (proof : LineProof) (k : ℕ) (there : k < length block.lines) (mask : proof.mask ≡ mask_at image block k) (links : plain_line_links proof.links ≡ plain_links (chain_of image (items_of image block) k)) where
  abbrev items : List Item
  items = items_of image block

  count : length items ≡ length block.lines
  count = length-map (leaves_of image block) leaf_item ∙ leaves_count image block.seed zero_imprint block.lines

  own_item : item_at items k ≡ leaf_item (leaf_node image (mask_at image block k) (line_at block k)).imprint
  own_item =
      let n = leaves_count image block.seed zero_imprint block.lines in
      item_is (leaves_of image block) k zero_imprint (omega (arith, n, there)) ∙ ap leaf_item (leaf_here image block.seed zero_imprint block.lines k zero_imprint there)

  pub root_led : ((image : List ℕ → List ℕ) (items : List Item) (k : ℕ) → IsRound items → k < length items → Climbs image (as_node (item_at items k)) (plain_links (chain_of image items k)) (tree_of image items))
      → ((image : List ℕ → List ℕ) (start top : Node) (links : List PlainLink) → (climbed image 0 start links ≡ Ok top) ↔ Climbs image start links top)
      → length block.lines ≤ 65536 → root_by image (line_at block k) proof ≡ Ok (kept_root image block)
  root_led chains climbs few =
      let round : IsRound items = record { few = omega (arith, count, few); low = item_low (leaves_of image block) } in
      let climbed_is = (climbs image (as_node (item_at items k)) (tree_of image items) (plain_links (chain_of image items k))).1 (chains image items k round (omega (arith, count, there))) in
      ap (λ (m : List ℕ). imprint_or_fault (climbed image 0 (leaf_node image m (line_at block k)) (plain_line_links proof.links))) mask
      ∙ ap (λ (l : List PlainLink). imprint_or_fault (climbed image 0 (leaf_node image (mask_at image block k) (line_at block k)) l)) links
      ∙ sym (ap (λ (i : Item). imprint_or_fault (climbed image 0 (as_node i) (plain_links (chain_of image items k)))) own_item)
      ∙ ap imprint_or_fault climbed_is

  pub way_led : ((image : List ℕ → List ℕ) (items : List Item) (k : ℕ) → sides_from_top (chain_of image items k) ≡ item_way items k) → sides_of proof.links ≡ way_of k (length block.lines)
  way_led ways =
      ap reverse (line_sides proof.links ∙ ap (map (λ (link : PlainLink). link.side)) links ∙ chain_sides (chain_of image items k))
      ∙ ways image items k
      ∙ ap (λ (i : Item). way_of k (length items) ++ name_sides i.name) own_item
      ∙ append-nil (way_of k (length items)) ∙ ap (way_of k) count
