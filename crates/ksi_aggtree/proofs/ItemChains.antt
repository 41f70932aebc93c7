-- A round's tree: its level, and its items' links.
use Rattle.std.proofs.Common.{◌≡◌, ℕ, zero, suc, ◌+◌, ◌-◌, ◌^◌, ◌<◌, ◌≤◌, List, [], ◌∷◌, ◌++◌, length, map, max, reverse, Option, Some, None, Result, Ok, refl, ap, ◌∙◌, subst, arith, inl, inr}
use Rattle.std.proofs.lemmas.Bool.Decides.{leb_tells}
use Rattle.ksi_split.specs.declared.side.Side.{Side}
use Rattle.ksi_split.specs.declared.tree_link.TreeLink.{TreeLink}
use Rattle.ksi_split.specs.Trees.{tree_within, tree, path_of, climb_links}
use Rattle.ksi_aggtree.specs.declared.chains.node.Node.{Node}
use Rattle.ksi_aggtree.specs.declared.chains.link.Link.{Link}
use Rattle.ksi_aggtree.specs.declared.item.Item.{Item}
use Rattle.ksi_aggtree.specs.declared.chains.climbing.LevelFault.{LevelFault}
use Rattle.ksi_aggtree.specs.Climbing.{climbed}
use Rattle.ksi_aggtree.specs.Owned.{plain_link, plain_links}
use Rattle.ksi_aggtree.specs.Links.{PlainLink}
use Rattle.ksi_imprint.specs.Imprints.{join_text}
use Rattle.std.proofs.lemmas.List.{map-append, reverse-append, length-append}
use Rattle.ksi_aggtree.specs.Names.{meta_of}
use Rattle.ksi_aggtree.specs.Rounds.{aggregation_join, named_level, named_imprint, leaf_level, as_node, item_at, leaf_of_place, tree_of, tree_path}
use Rattle.ksi_aggtree.specs.Paths.{name_links, name_sides, links_from, chain_of}
use Rattle.ksi_aggtree.proofs.Capped.{TreesFit}
use Rattle.ksi_aggtree.proofs.Climbing.{links_climb}

abbrev reached : Node → Result Node LevelFault
reached x = Ok x

module _ (image : List ℕ → List ℕ) where
  module _ (leaf : ℕ → Node) (m : ℕ) (low : (i : ℕ) → (leaf i).level ≤ m) where
    rises_within : (k lo n : ℕ) → (tree_within (aggregation_join image) leaf k lo n).level ≤ m + k
    unfolding tree_within
    rises_within zero lo n = omega (arith, low lo)
    rises_within (suc k) lo n = elim (leb_tells (suc (2 ^ k)) n) [
      | inl t ↦ rw t.0 (omega (arith, rises_within k lo (2 ^ k), rises_within k (lo + 2 ^ k) (n - 2 ^ k)))
      | inr f ↦ rw f.0 (omega (arith, rises_within k lo n))
    ]

  -- a tree of at most 65,536 items is at most 16 levels above them
  pub tree_rises : TreesFit → (items : List Item) (m : ℕ) → length items ≤ 65536 → ((i : ℕ) → leaf_level (item_at items i) ≤ m) → (tree_of image items).level ≤ m + 16
  tree_rises fits items m few low =
      let e = ap (λ (x : Node). x.level) (fits (aggregation_join image) (leaf_of_place image items) 16 0 (length items) few) in
      omega (arith, e, rises_within (leaf_of_place image items) m low 16 0 (length items))

  -- where the item has a name, the first link leads to its leaf, whose level does not pass 255
  named_climbs : (item : Item) (name : Option (List ℕ)) (links : List PlainLink) → named_level item.level name ≤ 255
      → climbed image 0 (as_node item) (plain_links (name_links name) ++ links) ≡ climbed image (length (name_links name)) (record { imprint = named_imprint image item name; level = named_level item.level name }) links
  named_climbs item None links low = refl
  named_climbs item (Some name) links low =
      let level : item.level + 0 + 1 ≡ item.level + 1 = omega arith in
      elim (leb_tells 256 (item.level + 0 + 1)) [
        | inl t ↦ absurd (omega (arith, t, low))
        | inr f ↦ rw f.0 (ap (λ (l : ℕ). climbed image 1 (record { imprint = image (join_text item.imprint (meta_of name) l); level = l }) links) level)
      ]

  -- the links of item k climb to the item of the round, where the tree's path leads to it, and no level passes 255
  pub item_climbs : (items : List Item) (k : ℕ) → (tree_of image items).level ≤ 255 → leaf_level (item_at items k) ≤ 239 → k < length items
      → ((last t : ℕ) → t ≤ last → climb_links (aggregation_join image) (leaf_of_place image items t) (path_of (aggregation_join image) (leaf_of_place image items) 0 t (last + 1)) ≡ tree (aggregation_join image) (leaf_of_place image items) 0 (last + 1))
      → climbed image 0 (as_node (item_at items k)) (plain_links (chain_of image items k)) ≡ Ok (tree_of image items)
  item_climbs items k low leaf lt up =
      let n : length items - 1 + 1 ≡ length items = omega arith in
      let top : climb_links (aggregation_join image) (leaf_of_place image items k) (tree_path image items k) ≡ tree_of image items =
      subst (λ (n : ℕ). climb_links (aggregation_join image) (leaf_of_place image items k) (path_of (aggregation_join image) (leaf_of_place image items) 0 k n) ≡ tree (aggregation_join image) (leaf_of_place image items) 0 n) n (up (length items - 1) k (omega arith)) in
      let e = ap (λ (x : Node). x.level) top in
      let x = item_at items k in
      let links = links_from (leaf_of_place image items k).level (tree_path image items k) in
      ap (climbed image 0 (as_node x)) (map-append plain_link (name_links x.name) links)
      ∙ named_climbs x x.name (plain_links links) (omega (arith, leaf))
      ∙ links_climb image (length (name_links x.name)) (leaf_of_place image items k) (tree_path image items k) (omega arith) ∙ ap reached top

pub links_count : (level : ℕ) (path : List (TreeLink Node)) → length (links_from level path) ≡ length path
links_count level [] = refl
links_count level (s ∷ path) = ap suc (links_count (max level s.sibling.level + 1) path)

-- the links have the path's sides
pub links_sides : (level : ℕ) (path : List (TreeLink Node)) → map (λ (l : Link). l.side) (links_from level path) ≡ map (λ (s : TreeLink Node). s.side) path
links_sides level [] = refl
links_sides level (s ∷ path) = ap (λ (sides : List Side). s.side ∷ sides) (links_sides (max level s.sibling.level + 1) path)

-- the links of a name are one at most, and stand as its sides do
pub name_count : (name : Option (List ℕ)) → length (name_links name) ≤ 1
name_count None = omega arith
name_count (Some name) = omega arith

pub name_links_sides : (name : Option (List ℕ)) → reverse (map (λ (l : Link). l.side) (name_links name)) ≡ name_sides name
name_links_sides None = refl
name_links_sides (Some name) = refl

-- the sides of a chain from the top
pub chain_sides : (name : Option (List ℕ)) (links : List Link) (way : List Side) → reverse (map (λ (l : Link). l.side) links) ≡ way
    → reverse (map (λ (l : Link). l.side) (name_links name ++ links)) ≡ way ++ name_sides name
chain_sides name links way e =
    ap reverse (map-append (λ (l : Link). l.side) (name_links name) links)
    ∙ reverse-append (map (λ (l : Link). l.side) (name_links name)) (map (λ (l : Link). l.side) links)
    ∙ ap (λ (sides : List Side). sides ++ reverse (map (λ (l : Link). l.side) (name_links name))) e
    ∙ ap (λ (sides : List Side). way ++ sides) (name_links_sides name)

pub chain_count : (name : Option (List ℕ)) (level : ℕ) (path : List (TreeLink Node)) → length (name_links name ++ links_from level path) ≡ length (name_links name) + length path
chain_count name level path = let n = links_count level path in omega (arith, length-append (name_links name) (links_from level path), n)
