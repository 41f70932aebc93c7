-- Links of an aggregation chain, whether their siblings are owned or borrowed.
use Rattle.std.specs.Prelude.{ℕ, ◌+◌, ◌==◌, ◌&&◌, Bool, false, List, [], ◌∷◌, Option, Some, None, if◌then◌else◌}
use Rattle.ksi_imprint.specs.Imprints.{join_text}
use Rattle.ksi_split.specs.declared.side.Side.{Side}
use Rattle.ksi_split.specs.declared.side.Side.TheVariants.{Left, Right}

-- the side of a node in its join, the levels to go up beyond one, the bytes of the other part, and whether they are raw:
-- a name or metadata, not the imprint of a node
pub record PlainLink : Type 0 where
  pub side : Side
  pub correction : ℕ
  pub sibling : List ℕ
  pub raw : Bool

-- the input of the join of a node on a side with its sibling at a level
abbrev pub side_text : Side → List ℕ → List ℕ → ℕ → List ℕ
side_text Left node sibling level = join_text node sibling level
side_text Right node sibling level = join_text sibling node level

-- the string of a link: the input of its join, from a node with this imprint, at a level
abbrev pub link_text : List ℕ → PlainLink → ℕ → List ℕ
link_text imprint link level = side_text link.side imprint link.sibling level

-- the highest level
abbrev pub highest_level : ℕ
highest_level = 255

-- the level that a link leads to
abbrev pub level_above : ℕ → PlainLink → ℕ
level_above level link = level + link.correction + 1

-- ---- raw siblings that begin as an imprint does

abbrev pub begins_as_imprint : List ℕ → Bool
begins_as_imprint [] = false
begins_as_imprint (first ∷ rest) = first == 1

abbrev pub on_right : Side → Bool → Bool
on_right Left bare = false
on_right Right bare = bare

-- the raw sibling of a right link begins with 0x01, as an imprint does
abbrev pub is_bare : PlainLink → Bool
is_bare link = on_right link.side (link.raw && begins_as_imprint link.sibling)

-- the place of the first such link, if there is one; the lowest link has the place given
abbrev pub first_bare : ℕ → List PlainLink → Option ℕ
first_bare place [] = None
first_bare place (link ∷ links) = if is_bare link then Some place else first_bare (place + 1) links
