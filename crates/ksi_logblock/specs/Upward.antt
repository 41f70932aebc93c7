-- The level that links beside other parts lead to, for the proof of the code.
use Rattle.std.specs.Prelude.{ℕ, ◌+◌, List, [], ◌∷◌, max}
use Rattle.ksi_split.specs.declared.tree_link.TreeLink.{TreeLink}
use Rattle.ksi_aggtree.specs.declared.chains.node.Node.{Node}

abbrev pub level_above : ℕ → List (TreeLink Node) → ℕ
level_above level [] = level
level_above level (other ∷ others) = level_above (max level other.sibling.level + 1) others
