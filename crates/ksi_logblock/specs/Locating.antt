-- What laying a line and its proof beside a kept block comes to.
use Rattle.std.specs.Prelude.{ℕ, ◌+◌, ◌-◌, ◌==◌, ◌&&◌, Bool, false, List, [], ◌∷◌, ◌++◌, length, Option, Some, None, Result, Ok, Err, unwrap_or, if◌then◌else◌}
use Rattle.std.specs.Str.{bytes_eq}
use Rattle.ksi_split.specs.Powers.{split_of}
use Rattle.ksi_split.specs.Parts.{Part, half_of, second_at}
use Rattle.ksi_split.specs.declared.side.Side.{Side}
use Rattle.ksi_split.specs.declared.side.Side.TheVariants.{Left}
use Rattle.ksi_split.specs.declared.fault.ShapeFault.{ShapeFault}
use Rattle.ksi_aggtree.specs.Links.{PlainLink}
use Rattle.ksi_aggtree.specs.declared.chains.climbing.LevelFault.{LevelFault}
use Rattle.ksi_aggtree.specs.declared.chains.node.Node.{Node}
use Rattle.ksi_aggtree.specs.Nodes.{parts_text}
use Rattle.ksi_aggtree.specs.Rounds.{tree_from, tree_of}
use Rattle.ksi_beside.specs.Beside.{Pair, Rung, rungs_from, pairs_below, differing}
use Rattle.ksi_logblock.specs.declared.line_proof.LineProof.{LineProof}
use Rattle.ksi_logblock.specs.declared.locating.Located.{Located}
use Rattle.ksi_logblock.specs.declared.locating.Located.TheVariants.{NotAccepted, In, Clash}
use Rattle.ksi_logblock.specs.declared.locating.LineRefusal.TheVariants.{Level, RootDiffers}
use Rattle.ksi_logblock.specs.Blocks.{Masked, items_of, leaf_text, line_at, mask_at}
use Rattle.ksi_logblock.specs.Links.{plain_line_links, sides_of}
use Rattle.ksi_logblock.specs.Proofs.{leaf_node, root_by}

-- ---- the strings of a block's tree

-- what is hashed for a part of the lines: one line's mask and hash at level 1, or the trees of both halves
abbrev pub part_text : (List ℕ → List ℕ) → Masked → Part → List ℕ
part_text image block part =
    if part.count == 1
    then leaf_text image (mask_at image block part.first) (line_at block part.first)
    else parts_text (tree_from image (items_of image block) part.first (split_of part.count)) (tree_from image (items_of image block) (part.first + split_of part.count) (part.count - split_of part.count))

-- what is hashed where sides lead to, from a part down: nothing below a leaf
abbrev pub text_below : (List ℕ → List ℕ) → Masked → Part → List Side → Option (List ℕ)
text_below image block part [] = Some (part_text image block part)
text_below image block part (side ∷ sides) = if part.count == 1 then None else text_below image block (half_of part side) sides

abbrev pub all_lines : Masked → Part
all_lines block = record { first = 0; count = length block.lines }

-- the string that the node at the sides, from the top, is made of
abbrev pub block_text : (List ℕ → List ℕ) → Masked → List Side → Option (List ℕ)
block_text image block sides = text_below image block (all_lines block) sides

-- ---- the strings that are compared

-- the link from a line's mask to its leaf
abbrev pub line_link : (List ℕ → List ℕ) → List ℕ → PlainLink
line_link image line = record { side = Left; correction = 0; sibling = image line; raw = false }

abbrev pub mask_node : List ℕ → Node
mask_node mask = record { imprint = mask; level = 0 }

-- the links of a proof, the top one first, and the one from the mask
abbrev pub line_rungs : (List ℕ → List ℕ) → List ℕ → LineProof → List Rung
line_rungs image line proof =
    rungs_from image (leaf_node image proof.mask line) (plain_line_links proof.links) ++ rungs_from image (mask_node proof.mask) (line_link image line ∷ [])

-- each link's string and the one that the block's tree has there
abbrev pub node_pairs : (List ℕ → List ℕ) → Masked → List ℕ → LineProof → List Pair
node_pairs image block line proof = pairs_below (block_text image block) [] (line_rungs image line proof)

-- the line that the links' sides name
abbrev pub line_in : Result ℕ ShapeFault → Option ℕ
line_in (Ok k) = Some k
line_in (Err fault) = None

abbrev pub line_named : Masked → LineProof → Option ℕ
line_named block proof = line_in (second_at (length block.lines - 1) (sides_of proof.links))

-- the line and the kept one
abbrev pub line_pairs : Masked → List ℕ → Option ℕ → List Pair
line_pairs block line None = []
line_pairs block line (Some k) = (line, line_at block k) ∷ []

-- the first pair of different strings
abbrev pub first_pair : (List ℕ → List ℕ) → Masked → List ℕ → LineProof → Option ℕ → Option Pair
first_pair image block line proof named = differing (node_pairs image block line proof ++ line_pairs block line named)

-- ---- the place of the line

-- the line that is named is this one, and the proof's mask is its own
abbrev pub is_own : (List ℕ → List ℕ) → Masked → List ℕ → LineProof → Option ℕ → Bool
is_own image block line proof None = false
is_own image block line proof (Some k) = bytes_eq line (line_at block k) && bytes_eq proof.mask (mask_at image block k)

-- the first pair of different strings is a clash; where the root is the kept one and no pair differs, the line is the one named
abbrev pub found : Option ℕ → Option Pair → Located
found named None = In (unwrap_or named 0)
found named (Some pair) = Clash (record { one = pair.0; two = pair.1 })

abbrev pub compared : (List ℕ → List ℕ) → Masked → List ℕ → LineProof → Located
compared image block line proof =
    if is_own image block line proof (line_named block proof)
    then In (unwrap_or (line_named block proof) 0)
    else found (line_named block proof) (first_pair image block line proof (line_named block proof))

abbrev pub kept_root : (List ℕ → List ℕ) → Masked → List ℕ
kept_root image block = (tree_of image (items_of image block)).imprint

abbrev pub against_root : (List ℕ → List ℕ) → Masked → List ℕ → LineProof → Result (List ℕ) LevelFault → Located
against_root image block line proof (Err fault) = NotAccepted (Level fault)
against_root image block line proof (Ok root) = if bytes_eq root (kept_root image block) then compared image block line proof else NotAccepted (RootDiffers root (kept_root image block))

-- the place of a proof's line in a block
unfoldable pub located : (List ℕ → List ℕ) → Masked → List ℕ → LineProof → Located
located image block line proof = against_root image block line proof (root_by image line proof)
