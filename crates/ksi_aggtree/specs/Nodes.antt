-- The node of a round's tree that sides from the top lead to, and the string that it is the hash of.
use Rattle.std.specs.Prelude.{◌≡◌, ℕ, zero, suc, ◌+◌, ◌-◌, ◌==◌, List, [], ◌∷◌, ◌++◌, length, max, Option, Some, None, if◌then◌else◌}
use Rattle.ksi_imprint.specs.Imprints.{join_text}
use Rattle.ksi_split.specs.Powers.{split_of}
use Rattle.ksi_split.specs.Parts.{Part, half_of}
use Rattle.ksi_split.specs.Ways.{LeadsTo}
use Rattle.ksi_split.specs.declared.side.Side.{Side}
use Rattle.ksi_split.specs.declared.side.Side.TheVariants.{Left, Right}
use Rattle.ksi_aggtree.specs.declared.chains.node.Node.{Node}
use Rattle.ksi_aggtree.specs.declared.item.Item.{Item}
use Rattle.ksi_aggtree.specs.declared.reached.Reached.{Reached}
use Rattle.ksi_aggtree.specs.declared.reached.Reached.TheVariants.{Items, Below}
use Rattle.ksi_aggtree.specs.declared.parts.NodeParts.{NodeParts}
use Rattle.ksi_aggtree.specs.declared.parts.OtherPart.{OtherPart}
use Rattle.ksi_aggtree.specs.declared.parts.OtherPart.TheVariants.{Imprint, Metadata}
use Rattle.ksi_aggtree.specs.Rounds.{item_at, as_node, named_text, tree_from}

-- below the leaf of an item, sides lead only to the left: to the item itself
abbrev pub below_leaf : ℕ → Side → List Side → Option Reached
below_leaf k Left [] = Some (Below k)
below_leaf k Left (side ∷ sides) = None
below_leaf k Right sides = None

-- from a part, sides lead to the part itself, or into one of its halves
abbrev pub reached_from : Part → List Side → Option Reached
reached_from part [] = Some (Items part.first part.count)
reached_from part (side ∷ sides) = if part.count == 1 then below_leaf part.first side sides else reached_from (half_of part side) sides

-- where sides lead from the top of the tree of n items
abbrev pub reached_in : ℕ → List Side → Option Reached
reached_in zero sides = None
reached_in (suc last) sides = reached_from (record { first = 0; count = suc last }) sides

-- ---- nodes

-- the node on the left below an item's leaf: the item, if it has a name
abbrev pub node_below : Item → Option (List ℕ) → Option Node
node_below item None = None
node_below item (Some name) = Some (as_node item)

abbrev pub node_in : (List ℕ → List ℕ) → List Item → Option Reached → Option Node
node_in image items None = None
node_in image items (Some (Items first count)) = Some (tree_from image items first count)
node_in image items (Some (Below k)) = node_below (item_at items k) (item_at items k).name

-- the node that sides from the top lead to: the tree of a part of the items, or the item below the leaf of a named one
abbrev pub node_of : (List ℕ → List ℕ) → List Item → List Side → Option Node
node_of image items sides = node_in image items (reached_in (length items) sides)

-- ---- strings of nodes

-- the input of the join of both parts
abbrev pub parts_text : Node → Node → List ℕ
parts_text left right = join_text left.imprint right.imprint (max left.level right.level + 1)

-- the string of an item's leaf, if it has a name
abbrev pub leaf_text : Item → Option (List ℕ) → Option (List ℕ)
leaf_text item None = None
leaf_text item (Some name) = Some (named_text item name)

-- the string of the tree of the n items from lo
abbrev pub text_from : (List ℕ → List ℕ) → List Item → ℕ → ℕ → Option (List ℕ)
text_from image items lo n =
    if n == 1
    then leaf_text (item_at items lo) (item_at items lo).name
    else Some (parts_text (tree_from image items lo (split_of n)) (tree_from image items (lo + split_of n) (n - split_of n)))

abbrev pub text_in : (List ℕ → List ℕ) → List Item → Option Reached → Option (List ℕ)
text_in image items None = None
text_in image items (Some (Items first count)) = text_from image items first count
text_in image items (Some (Below k)) = None

-- the string that the node at these sides is the hash of, if it is a join: of both parts of two items or more, or of a
-- named item and its metadata
abbrev pub text_of : (List ℕ → List ℕ) → List Item → List Side → Option (List ℕ)
text_of image items sides = text_in image items (reached_in (length items) sides)

-- ---- in the terms of ways

-- the sides lead to the leaf of item k, which has a name, and then to the left below it
pub record LeadsBelow (items : List Item) (sides : List Side) (k : ℕ) : Type 0 where
  pub name : List ℕ
  pub named : (item_at items k).name ≡ Some name
  pub front : List Side
  pub leaf : LeadsTo (length items) front k 1
  pub left : sides ≡ front ++ Left ∷ []

-- ---- in the code

-- the bytes after the left imprint
abbrev pub other_bytes : OtherPart → List ℕ
other_bytes (Imprint bytes) = bytes
other_bytes (Metadata bytes) = bytes

-- the string of a node's parts
abbrev pub node_text : NodeParts → List ℕ
node_text parts = join_text parts.left (other_bytes parts.other) parts.level
