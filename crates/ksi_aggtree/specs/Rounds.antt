-- The items of a round, the leaves that they make, and the tree over these.
use Rattle.std.specs.Prelude.{◌≡◌, ℕ, zero, suc, ◌+◌, ◌≤◌, List, [], ◌∷◌, length, map, max, min, slice_index_or, Option, None, Some}
use Rattle.ksi_imprint.specs.Imprints.{join_text, zero_imprint}
use Rattle.ksi_split.specs.Trees.{tree, path_of}
use Rattle.ksi_split.specs.declared.tree_link.TreeLink.{TreeLink}
use Rattle.ksi_split.specs.Leaves.{Leaves}
use Rattle.ksi_aggtree.specs.Links.{highest_level}
use Rattle.ksi_aggtree.specs.declared.chains.node.Node.{Node}
use Rattle.ksi_aggtree.specs.declared.item.Item.{Item}
use Rattle.ksi_aggtree.specs.Names.{meta_of}

-- both imprints joined at a level
abbrev pub joined_at : (List ℕ → List ℕ) → Node → Node → ℕ → Node
joined_at image left right level = record { imprint = image (join_text left.imprint right.imprint level); level = level }

-- both parts joined, one level above the greater of their levels
abbrev pub aggregation_join : (List ℕ → List ℕ) → Node → Node → Node
aggregation_join image left right = joined_at image left right (max left.level right.level + 1)

-- the item past the end of a list
abbrev pub no_item : Item
no_item = record { imprint = zero_imprint; level = 0; name = None }

-- the item at a place
abbrev pub item_at : List Item → ℕ → Item
item_at items k = slice_index_or items k no_item

-- the node of an item's own imprint and level, from which its chain climbs
abbrev pub as_node : Item → Node
as_node item = record { imprint = item.imprint; level = item.level }

-- the item that a node is submitted as
abbrev pub as_item : Node → Item
as_item node = record { imprint = node.imprint; level = node.level; name = None }

-- the item with this name, or without a name
abbrev pub with_name : Option (List ℕ) → Item → Item
with_name name item = record item { name = name }

-- the level of an item's leaf: the item's own, or one more if it has a name
abbrev pub named_level : ℕ → Option (List ℕ) → ℕ
named_level level None = level
named_level level (Some name) = level + 1

abbrev pub leaf_level : Item → ℕ
leaf_level item = named_level item.level item.name

-- the string of the leaf of an item with this name: the item's imprint, the name's metadata and the leaf's level
abbrev pub named_text : Item → List ℕ → List ℕ
named_text item name = join_text item.imprint (meta_of name) (item.level + 1)

-- the imprint of an item's leaf: the item's own, or if it has a name, that of the join with its metadata
abbrev pub named_imprint : (List ℕ → List ℕ) → Item → Option (List ℕ) → List ℕ
named_imprint image item None = item.imprint
named_imprint image item (Some name) = image (named_text item name)

-- the leaf of an item in a tree
abbrev pub leaf : (List ℕ → List ℕ) → Item → Node
leaf image item = record { imprint = named_imprint image item item.name; level = leaf_level item }

-- the leaf of the item at a place
abbrev pub leaf_of_place : (List ℕ → List ℕ) → List Item → ℕ → Node
leaf_of_place image items k = leaf image (item_at items k)

-- the tree over the n items from lo
abbrev pub tree_from : (List ℕ → List ℕ) → List Item → ℕ → ℕ → Node
tree_from image items lo n = tree (aggregation_join image) (leaf_of_place image items) lo n

-- the tree of all items
abbrev pub tree_of : (List ℕ → List ℕ) → List Item → Node
tree_of image items = tree_from image items 0 (length items)

-- the items of a tree, if there is one
abbrev pub some_items : List Item → Option (List Item)
some_items [] = None
some_items (item ∷ others) = Some (item ∷ others)

-- the root of the tree, if there is an item
abbrev pub root_from : ℕ → Node → Option Node
root_from zero root = None
root_from (suc n) root = Some root

abbrev pub root_of : (List ℕ → List ℕ) → List Item → Option Node
root_of image items = root_from (length items) (tree_of image items)

-- from item k up to the root, each other part with its level
abbrev pub tree_path : (List ℕ → List ℕ) → List Item → ℕ → List (TreeLink Node)
tree_path image items k = path_of (aggregation_join image) (leaf_of_place image items) 0 k (length items)

-- how many items a round may have
abbrev pub most_items : ℕ
most_items = 65536

-- the highest level that a leaf may have, and so an item without a name
abbrev pub highest_item : ℕ
highest_item = 239

-- a round: a limit on the number of items and on the level of each leaf
pub record IsRound (items : List Item) : Type 0 where
  pub few : length items ≤ most_items
  pub low : (k : ℕ) → leaf_level (item_at items k) ≤ highest_item

-- ---- in the code

-- the join as it is computed, its level kept within a byte; in a round no level passes the highest
abbrev pub capped_join : (List ℕ → List ℕ) → Node → Node → Node
capped_join image left right = joined_at image left right (min (max left.level right.level + 1) highest_level)

-- what is stored with the items: their leaves, with none before them
pub record AreLeaves (image : List ℕ → List ℕ) (leaves : Leaves Node) (items : List Item) : Type 0 where
  pub start : leaves.start ≡ 0
  pub before : leaves.before ≡ leaf image no_item
  pub nodes : leaves.items ≡ map (leaf image) items
