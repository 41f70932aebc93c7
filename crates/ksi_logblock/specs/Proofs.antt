-- What a line's proof leads to, and the proof of each line of a block.
use Rattle.std.specs.Prelude.{ℕ, List, map, Result, Ok, Err}
use Rattle.ksi_aggtree.specs.declared.chains.node.Node.{Node}
use Rattle.ksi_aggtree.specs.declared.chains.climbing.LevelFault.{LevelFault}
use Rattle.ksi_aggtree.specs.Climbing.{climbed}
use Rattle.ksi_aggtree.specs.Owned.{plain_links}
use Rattle.ksi_aggtree.specs.Paths.{chain_of}
use Rattle.ksi_logblock.specs.declared.line_proof.LineProof.{LineProof}
use Rattle.ksi_logblock.specs.Blocks.{Masked, items_of, leaf_text, mask_at}
use Rattle.ksi_logblock.specs.Links.{line_link_of, plain_line_links}

-- the node that a line's links climb from: its leaf, at level 1
abbrev pub leaf_node : (List ℕ → List ℕ) → List ℕ → List ℕ → Node
leaf_node image mask line = record { imprint = image (leaf_text image mask line); level = 1 }

abbrev pub imprint_or_fault : Result Node LevelFault → Result (List ℕ) LevelFault
imprint_or_fault (Ok top) = Ok top.imprint
imprint_or_fault (Err fault) = Err fault

-- the imprint that a line and its proof lead to, or the first link whose level passes 255
abbrev pub root_by : (List ℕ → List ℕ) → List ℕ → LineProof → Result (List ℕ) LevelFault
root_by image line proof = imprint_or_fault (climbed image 0 (leaf_node image proof.mask line) (plain_line_links proof.links))

-- the proof of line k: its own mask and chain
abbrev pub own_proof : (List ℕ → List ℕ) → Masked → ℕ → LineProof
own_proof image block k = record { mask = mask_at image block k; links = map line_link_of (plain_links (chain_of image (items_of image block) k)) }
