-- The sides of a chain.
use Rattle.std.specs.Prelude.{ℕ, List, map, reverse}
use Rattle.ksi_split.specs.declared.side.Side.{Side}
use Rattle.ksi_split.specs.declared.tree_link.TreeLink.{TreeLink}

-- the sides of links from the bottom, listed from the top
abbrev pub sides_from_top : List (TreeLink (List ℕ)) → List Side
sides_from_top links = reverse (map (λ link. link.side) links)
