-- Climbing where no level passes 255, for the proof of the code.
use Rattle.std.specs.Prelude.{ℕ, List, [], ◌∷◌}
use Rattle.ksi_aggtree.specs.Links.{PlainLink}
use Rattle.ksi_aggtree.specs.Climbing.{above}
use Rattle.ksi_aggtree.specs.declared.chains.node.Node.{Node}

-- the item that links lead to, whatever the levels
abbrev pub climbed_to : (List ℕ → List ℕ) → Node → List PlainLink → Node
climbed_to image item [] = item
climbed_to image item (link ∷ links) = climbed_to image (above image item link) links
