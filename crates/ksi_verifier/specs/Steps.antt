-- The steps of a signature: each link with the node below it, its sibling, and the join of both.
use Rattle.std.specs.Prelude.{ℕ, ◌+◌, nat_lt, Bool, true, false, List, [], ◌∷◌, ◌++◌, Option, Some, None, Result, Ok, Err, if◌then◌else◌}
use Rattle.ksi_split.specs.Trees.{link_from}
use Rattle.ksi_split.specs.declared.side.Side.{Side}
use Rattle.ksi_split.specs.declared.tree_link.TreeLink.{TreeLink}
use Rattle.ksi_aggtree.specs.Links.{PlainLink, highest_level, level_above, link_text}
use Rattle.ksi_aggtree.specs.Climbing.{above, climbed}
use Rattle.ksi_aggtree.specs.declared.chains.node.Node.{Node}
use Rattle.ksi_aggtree.specs.declared.chains.climbing.LevelFault.{LevelFault}
use Rattle.ksi_calendar.specs.Climbing.{calendar_join, calendar_element_text}
use Rattle.ksi_signature.specs.declared.signature.Signature.{Signature}
use Rattle.ksi_signature.specs.Values.{Calendar}
use Rattle.ksi_verifier.specs.Chains.{PlainChain, plain_chains}
use Rattle.ksi_verifier.specs.declared.step.Step.{Step}

-- The position of a link: in the calendar chain or in which aggregation chain, and its place there, the lowest being 0.
-- Then its join: the node below it and its side, the sibling's bytes and whether they are raw, the level that is hashed
-- with both, and the result.
pub record PlainStep : Type 0 where
  pub calendar : Bool
  pub chain : ℕ
  pub place : ℕ
  pub side : Side
  pub level : ℕ
  pub node : List ℕ
  pub sibling : List ℕ
  pub raw : Bool
  pub join : List ℕ

-- the value of a borrowed step
abbrev pub step_seen : Step → PlainStep
step_seen step = record {
  calendar = step.calendar;
  chain = step.chain;
  place = step.place;
  side = step.side;
  level = step.level;
  node = step.node;
  sibling = step.sibling.now;
  raw = step.raw;
  join = step.join;
}

-- ---- aggregation chains

abbrev pub link_step : (List ℕ → List ℕ) → (chain place : ℕ) → Node → PlainLink → PlainStep
link_step image chain place below link = record {
  calendar = false;
  chain = chain;
  place = place;
  side = link.side;
  level = level_above below.level link;
  node = below.imprint;
  sibling = link.sibling;
  raw = link.raw;
  join = image (link_text below.imprint link (level_above below.level link));
}

-- along links from a node, up to the first whose level passes 255; the lowest has the place given
abbrev pub link_steps : (List ℕ → List ℕ) → (chain place : ℕ) → Node → List PlainLink → List PlainStep
link_steps image chain place below [] = []
link_steps image chain place below (link ∷ links) =
    if nat_lt highest_level (level_above below.level link) then []
    else link_step image chain place below link ∷ link_steps image chain (place + 1) (above image below link) links

-- where a chain begins
abbrev pub input_at : ℕ → PlainChain → Node
input_at level chain = record { imprint = chain.input; level = level }

-- ---- the calendar chain

abbrev pub calendar_step : (List ℕ → List ℕ) → ℕ → List ℕ → TreeLink (List ℕ) → PlainStep
calendar_step image place below link = record {
  calendar = true;
  chain = 0;
  place = place;
  side = link.side;
  level = 255;
  node = below;
  sibling = link.sibling;
  raw = false;
  join = image (calendar_element_text below link);
}

abbrev pub calendar_steps : (List ℕ → List ℕ) → ℕ → List ℕ → List (TreeLink (List ℕ)) → List PlainStep
calendar_steps image place below [] = []
calendar_steps image place below (link ∷ links) =
    calendar_step image place below link ∷ calendar_steps image (place + 1) (link_from (calendar_join image) below link link.side) links

abbrev pub steps_of_calendar : (List ℕ → List ℕ) → Option Calendar → List PlainStep
steps_of_calendar image None = []
steps_of_calendar image (Some calendar) = calendar_steps image 0 calendar.input calendar.links

-- ---- both

-- the steps above a chain, from the level that it leads to; none if a level passes 255
abbrev pub above_top : Result Node LevelFault → (ℕ → List PlainStep) → List PlainStep
above_top (Ok top) steps = steps top.level
above_top (Err fault) steps = []

-- the steps of the aggregation chains from one on and a level, and of the calendar chain above them
abbrev pub steps_from : (List ℕ → List ℕ) → (chain level : ℕ) → List PlainChain → Option Calendar → List PlainStep
steps_from image chain level [] calendar = steps_of_calendar image calendar
steps_from image chain level (lowest ∷ chains) calendar =
    link_steps image chain 0 (input_at level lowest) lowest.links
    ++ above_top (climbed image 0 (input_at level lowest) lowest.links) (λ top. steps_from image (chain + 1) top chains calendar)

-- the steps of a signature, from the document's hash up, each chain from its own input hash
abbrev pub steps : (List ℕ → List ℕ) → Signature → List PlainStep
steps image signature = steps_from image 0 0 (plain_chains signature.chains) signature.calendar
