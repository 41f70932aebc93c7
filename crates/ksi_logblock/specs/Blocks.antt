-- A block of log lines: its masks and leaves, and the items of its tree.
use Rattle.std.specs.Prelude.{ℕ, List, [], ◌∷◌, ◌++◌, map, slice_index_or, Option, None}
use Rattle.ksi_imprint.specs.Imprints.{join_text, zero_imprint}
use Rattle.ksi_aggtree.specs.declared.chains.node.Node.{Node}
use Rattle.ksi_aggtree.specs.declared.item.Item.{Item}
use Rattle.ksi_aggtree.specs.Rounds.{root_of}

-- the lines of a block, and the seed of their masks
pub record Masked : Type 0 where
  pub seed : List ℕ
  pub lines : List (List ℕ)

-- the mask of the line after a leaf
abbrev pub mask_behind : (List ℕ → List ℕ) → List ℕ → List ℕ → List ℕ
mask_behind image seed leaf = image (leaf ++ seed)

-- what is hashed for a leaf: a mask, the hash of its line, and level 1
abbrev pub leaf_text : (List ℕ → List ℕ) → List ℕ → List ℕ → List ℕ
leaf_text image mask line = join_text mask (image line) 1

-- the leaf of a line after another one's leaf
abbrev pub leaf_behind : (List ℕ → List ℕ) → List ℕ → List ℕ → List ℕ → List ℕ
leaf_behind image seed before line = image (leaf_text image (mask_behind image seed before) line)

-- the leaves of lines, each after the one before it
abbrev pub leaves_behind : (List ℕ → List ℕ) → List ℕ → List ℕ → List (List ℕ) → List (List ℕ)
leaves_behind image seed before [] = []
leaves_behind image seed before (line ∷ lines) = leaf_behind image seed before line ∷ leaves_behind image seed (leaf_behind image seed before line) lines

-- the leaves of a block: the zero imprint takes the place of one before the first
abbrev pub leaves_of : (List ℕ → List ℕ) → Masked → List (List ℕ)
leaves_of image block = leaves_behind image block.seed zero_imprint block.lines

-- the leaf of line k, the first being line 0
abbrev pub leaf_at : (List ℕ → List ℕ) → Masked → ℕ → List ℕ
leaf_at image block k = slice_index_or (leaves_of image block) k zero_imprint

-- the mask of line k, after the leaf before it: the zero imprint takes the place of one before the first
abbrev pub mask_among : (List ℕ → List ℕ) → List ℕ → List (List ℕ) → ℕ → List ℕ
mask_among image seed leaves k = mask_behind image seed (slice_index_or (zero_imprint ∷ leaves) k zero_imprint)

abbrev pub mask_at : (List ℕ → List ℕ) → Masked → ℕ → List ℕ
mask_at image block k = mask_among image block.seed (leaves_of image block) k

abbrev pub line_at : Masked → ℕ → List ℕ
line_at block k = slice_index_or block.lines k []

-- one line more
abbrev pub with_line : List ℕ → Masked → Masked
with_line line block = record { seed = block.seed; lines = block.lines ++ line ∷ [] }

-- the item of a leaf, without a name
abbrev pub leaf_item : List ℕ → Item
leaf_item leaf = record { imprint = leaf; level = 1; name = None }

-- the items of the block's tree
abbrev pub items_of : (List ℕ → List ℕ) → Masked → List Item
items_of image block = map leaf_item (leaves_of image block)

-- the root of the tree over the leaves, where there is a line
abbrev pub block_root : (List ℕ → List ℕ) → Masked → Option Node
block_root image block = root_of image (items_of image block)

-- how many lines a block may have, and how many bytes a line
abbrev pub most_lines : ℕ
most_lines = 65536

abbrev pub longest_line : ℕ
longest_line = 8000
