-- Climbing along links of a calendar hash chain, the lowest first.
use Rattle.std.specs.Prelude.{◌≡◌, ℕ, ◌+◌, List, length, slice_get, Some}
use Rattle.ksi_imprint.specs.Imprints.{join_text}
use Rattle.ksi_split.specs.Trees.{link_from}
use Rattle.ksi_split.specs.declared.tree_link.TreeLink.{TreeLink}

-- the input of the join of two nodes of the calendar: the level byte is 0xff
abbrev pub calendar_join_text : List ℕ → List ℕ → List ℕ
calendar_join_text left right = join_text left right 255

-- how the calendar joins two nodes
abbrev pub calendar_join : (List ℕ → List ℕ) → List ℕ → List ℕ → List ℕ
calendar_join image left right = image (calendar_join_text left right)

-- the string of a link: the input of its join, from a node with this imprint
abbrev pub calendar_element_text : List ℕ → TreeLink (List ℕ) → List ℕ
calendar_element_text imprint link = link_from calendar_join_text imprint link link.side

-- links lead from `start` to `top`: there are imprints, one more than there are links, from `start` to `top`, and each
-- link's join leads from one of them to the next
pub record ClimbsCalendar (image : List ℕ → List ℕ) (start : List ℕ) (links : List (TreeLink (List ℕ))) (top : List ℕ) : Type 0 where
  pub imprints : List (List ℕ)
  pub count : length imprints ≡ length links + 1
  pub first : slice_get imprints 0 ≡ Some start
  pub last : slice_get imprints (length links) ≡ Some top
  pub each : (k : ℕ) (link : TreeLink (List ℕ)) (below above : List ℕ) → slice_get links k ≡ Some link →
      slice_get imprints k ≡ Some below → slice_get imprints (k + 1) ≡ Some above → above ≡ image (calendar_element_text below link)
