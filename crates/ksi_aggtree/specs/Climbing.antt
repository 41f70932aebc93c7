-- Climbing along links, the lowest first.
use Rattle.std.specs.Prelude.{◌≡◌, ℕ, ◌+◌, ◌<◌, ◌≤◌, nat_lt, List, [], ◌∷◌, length, take, slice_get, Some, sum_by, Result, Ok, Err, if◌then◌else◌}
use Rattle.ksi_aggtree.specs.Links.{PlainLink, link_text, level_above, highest_level}
use Rattle.ksi_aggtree.specs.declared.chains.node.Node.{Node}
use Rattle.ksi_aggtree.specs.declared.chains.climbing.LevelFault.{LevelFault}
use Rattle.ksi_aggtree.specs.declared.chains.climbing.LevelFault.TheVariants.{Over}

-- a link leads from a node to the node that its join makes, at a level that does not pass the highest
pub record Leads (image : List ℕ → List ℕ) (link : PlainLink) (below above : Node) : Type 0 where
  pub level : above.level ≡ level_above below.level link
  pub low : above.level ≤ highest_level
  pub imprint : above.imprint ≡ image (link_text below.imprint link above.level)

-- links lead from `start` to `top`: there are nodes, one more than there are links, from `start` to `top`, and each
-- link leads from one of them to the next
pub record Climbs (image : List ℕ → List ℕ) (start : Node) (links : List PlainLink) (top : Node) : Type 0 where
  pub nodes : List Node
  pub count : length nodes ≡ length links + 1
  pub first : slice_get nodes 0 ≡ Some start
  pub last : slice_get nodes (length links) ≡ Some top
  pub each : (k : ℕ) (link : PlainLink) (below above : Node) → slice_get links k ≡ Some link →
      slice_get nodes k ≡ Some below → slice_get nodes (k + 1) ≡ Some above → Leads image link below above

-- the level that links lead to from a level
abbrev pub level_after : ℕ → List PlainLink → ℕ
level_after level links = level + sum_by (λ link. link.correction + 1) links

-- from the level `start` the link at `place` is the first whose level passes the highest, and that level is `high`
pub record PassesLevels (start : ℕ) (links : List PlainLink) (place high : ℕ) : Type 0 where
  pub within : place < length links
  pub level : high ≡ level_after start (take (place + 1) links)
  pub over : highest_level < high
  pub first : (k : ℕ) → k < place → level_after start (take (k + 1) links) ≤ highest_level

-- ---- the same as values

-- the node that a link leads to, with no bound on its level
abbrev pub above : (List ℕ → List ℕ) → Node → PlainLink → Node
above image node link =
    record { imprint = image (link_text node.imprint link (level_above node.level link)); level = level_above node.level link }

-- the node that links lead to, or the first link whose level passes the highest; places are counted from the one given
abbrev pub climbed : (List ℕ → List ℕ) → ℕ → Node → List PlainLink → Result Node LevelFault
climbed image place node [] = Ok node
climbed image place node (link ∷ links) =
    if nat_lt highest_level (level_above node.level link)
    then Err (Over place (level_above node.level link))
    else climbed image (place + 1) (above image node link) links
