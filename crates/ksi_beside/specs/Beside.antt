-- Links as they are climbed, the top one first, beside the strings of a kept tree.
use Rattle.std.specs.Prelude.{ℕ, ◌==◌, ◌≤◌, List, [], ◌∷◌, ◌++◌, length, map, take, Option, Some, None, if◌then◌else◌}
use Rattle.std.specs.Str.{bytes_eq}
use Rattle.ksi_split.specs.declared.side.Side.{Side}
use Rattle.ksi_split.specs.declared.tree_link.TreeLink.{TreeLink}
use Rattle.ksi_imprint.specs.declared.clash.Clash as clashes
use Rattle.ksi_aggtree.specs.Links.{PlainLink, side_text, level_above}
use Rattle.ksi_aggtree.specs.Climbing.{above}
use Rattle.ksi_aggtree.specs.declared.chains.node.Node.{Node}
use Rattle.ksi_calendar.specs.Climbing.{calendar_element_text}
use Rattle.ksi_beside.specs.declared.walk.Walk.{Walk}
use Rattle.ksi_beside.specs.declared.walk.Walk.TheVariants.{Apart, At, Past}

-- a link as it is climbed: the side of the node below it, that node's imprint, the other part, and the level of the join
pub record Rung : Type 0 where
  pub side : Side
  pub below : List ℕ
  pub sibling : List ℕ
  pub level : ℕ

abbrev pub rung_side : Rung → Side
rung_side rung = rung.side

-- the string of the link: what its join hashes
abbrev pub rung_text : Rung → List ℕ
rung_text rung = side_text rung.side rung.below rung.sibling rung.level

abbrev pub rung_from : Node → PlainLink → Rung
rung_from item link = record { side = link.side; below = item.imprint; sibling = link.sibling; level = level_above item.level link }

-- the links of aggregation chains, from an item up
abbrev pub rungs_from : (List ℕ → List ℕ) → Node → List PlainLink → List Rung
rungs_from image item [] = []
rungs_from image item (link ∷ links) = rungs_from image (above image item link) links ++ rung_from item link ∷ []

abbrev pub calendar_rung_from : List ℕ → TreeLink (List ℕ) → Rung
calendar_rung_from imprint link = record { side = link.side; below = imprint; sibling = link.sibling; level = 255 }

-- the links of a calendar chain, from an imprint up
abbrev pub calendar_rungs_from : (List ℕ → List ℕ) → List ℕ → List (TreeLink (List ℕ)) → List Rung
calendar_rungs_from image imprint [] = []
calendar_rungs_from image imprint (link ∷ links) = calendar_rungs_from image (image (calendar_element_text imprint link)) links ++ calendar_rung_from imprint link ∷ []

-- ---- beside a kept tree

-- two strings
abbrev pub Pair : Type 0
Pair = List ℕ × List ℕ

abbrev pub pair_before : Option (List ℕ) → Rung → List Pair → List Pair
pair_before None rung pairs = []
pair_before (Some text) rung pairs = (rung_text rung, text) ∷ pairs

-- each link's string and the kept tree's string at the sides above it, as far down as the tree has one
abbrev pub pairs_below : (List Side → Option (List ℕ)) → List Side → List Rung → List Pair
pairs_below kept sides [] = []
pairs_below kept sides (rung ∷ rungs) = pair_before (kept sides) rung (pairs_below kept (sides ++ rung.side ∷ []) rungs)

-- the first pair of different strings
abbrev pub differing : List Pair → Option Pair
differing [] = None
differing (pair ∷ pairs) = if bytes_eq pair.0 pair.1 then differing pairs else Some pair

-- ---- where links end beside a kept tree

-- links from a place down, this many of which have a string to be compared with: the first pair of different strings;
-- otherwise the place that they all lead to, or the place at which the tree has no string and links are left
abbrev pub ended : List Side → List Rung → ℕ → Option Pair → Walk
ended sides rungs passed (Some pair) = Apart (record { one = pair.0; two = pair.1 })
ended sides rungs passed None =
    if passed == length rungs then At (sides ++ map rung_side rungs) else Past (sides ++ take passed (map rung_side rungs))

abbrev pub laid_from : (List Side → Option (List ℕ)) → List Side → List Rung → Walk
laid_from kept sides rungs = ended sides rungs (length (pairs_below kept sides rungs)) (differing (pairs_below kept sides rungs))

-- links below those that ended so
abbrev pub laid_on : (List Side → Option (List ℕ)) → Walk → List Rung → Walk
laid_on kept (Apart clash) rungs = Apart clash
laid_on kept (At sides) rungs = laid_from kept sides rungs
laid_on kept (Past sides) rungs = Past sides

-- ---- clashes

abbrev pub IsApart : Walk → Type 0
IsApart (Apart clash) = Unit {0}
IsApart (At sides) = ⊥
IsApart (Past sides) = ⊥

abbrev pub clash_in : Walk → Option clashes.Clash
clash_in (Apart clash) = Some clash
clash_in (At sides) = None
clash_in (Past sides) = None

-- so short strings that a line can show both: each is an imprint, a sibling of at most 4,096 bytes and a level
abbrev pub AreShort : clashes.Clash → Type 0
AreShort clash = (length clash.one ≤ 4130) × (length clash.two ≤ 4130)

abbrev pub IsShortWalk : Walk → Type 0
IsShortWalk (Apart clash) = AreShort clash
IsShortWalk (At sides) = Unit {0}
IsShortWalk (Past sides) = Unit {0}

-- siblings of at most this many bytes
abbrev pub IsShortLink : PlainLink → Type 0
IsShortLink link = length link.sibling ≤ 4096
