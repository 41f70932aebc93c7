-- The chain of an item: links with the corrections that meet the tree's levels, the lowest first.
use Rattle.std.specs.Prelude.{ℕ, ◌+◌, ◌-◌, List, [], ◌∷◌, ◌++◌, length, map, reverse, max, Option, Some, None}
use Rattle.ksi_split.specs.declared.side.Side.{Side}
use Rattle.ksi_split.specs.declared.side.Side.TheVariants.{Left}
use Rattle.ksi_split.specs.Ways.{way_of}
use Rattle.ksi_split.specs.declared.tree_link.TreeLink.{TreeLink}
use Rattle.ksi_aggtree.specs.declared.chains.node.Node.{Node}
use Rattle.ksi_aggtree.specs.declared.chains.link.Link.{Link}
use Rattle.ksi_aggtree.specs.declared.item.Item.{Item}
use Rattle.ksi_aggtree.specs.declared.chains.link.Sibling.TheVariants.{Imprint, Metadata}
use Rattle.ksi_aggtree.specs.Names.{meta_of}
use Rattle.ksi_aggtree.specs.Rounds.{item_at, leaf_of_place, tree_path}

-- the link from a level to the join with the other part; its correction covers the levels that are missing below that part's
abbrev pub link_beside : ℕ → TreeLink Node → Link
link_beside level other = record { side = other.side; correction = max level other.sibling.level - level; sibling = Imprint other.sibling.imprint }

-- the links from a level up, with the other parts as siblings
abbrev pub links_from : ℕ → List (TreeLink Node) → List Link
links_from level [] = []
links_from level (other ∷ others) = link_beside level other ∷ links_from (max level other.sibling.level + 1) others

-- the link from an item to its leaf: the item is on the left of the name's metadata, one level below
abbrev pub name_link : List ℕ → Link
name_link name = record { side = Left; correction = 0; sibling = Metadata (meta_of name) }

-- the links from an item to its leaf: one if it has a name
abbrev pub name_links : Option (List ℕ) → List Link
name_links None = []
name_links (Some name) = name_link name ∷ []

-- the chain of item k: to its leaf, and from there to the top
abbrev pub chain_of : (List ℕ → List ℕ) → List Item → ℕ → List Link
chain_of image items k = name_links (item_at items k).name ++ links_from (leaf_of_place image items k).level (tree_path image items k)

-- the sides from an item's leaf down to the item: left if it has a name
abbrev pub name_sides : Option (List ℕ) → List Side
name_sides None = []
name_sides (Some name) = Left ∷ []

-- the path of item k, the sides from the top down to it: the path of its leaf, and from there to the item
abbrev pub item_way : List Item → ℕ → List Side
item_way items k = way_of k (length items) ++ name_sides (item_at items k).name

-- the sides of links from the bottom, listed from the top
abbrev pub sides_from_top : List Link → List Side
sides_from_top links = reverse (map (λ link. link.side) links)
