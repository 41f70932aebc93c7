-- What a mirror has.
use Rattle.std.specs.Prelude.{ℕ, ◌+◌, ◌*◌, ◌^◌, ◌<◌, ◌≤◌, ◌==◌, ◌&&◌, List, [], ◌∷◌, length, map, Option, Some, None, if◌then◌else◌}
use Rattle.std.specs.List.{AllByRecursion}
use Rattle.ksi_imprint.specs.Imprints.{IsImprint}
use Rattle.ksi_aggtree.specs.declared.item.Item.{Item}
use Rattle.ksi_aggtree.specs.Rounds.{most_items}
use Rattle.ksi_journal.specs.Journal.{RiseFrom, IsItem}
use Rattle.ksi_mirror.specs.declared.sealed_list.SealedList.{SealedList}
use Rattle.ksi_mirror.specs.declared.parts.MirrorParts.{MirrorParts}

-- the first second of the calendar; roots by second; and what cores sealed, by second and core
pub record MirrorState : Type 0 where
  pub start : ℕ
  pub roots : List (ℕ × List ℕ)
  pub lists : List SealedList

-- what it is made of, as a record of lists
abbrev pub mirror_of_parts : MirrorParts → MirrorState
mirror_of_parts parts = record { start = parts.start; roots = parts.roots.items; lists = parts.lists.items }

-- ---- what it has

abbrev pub root_among : List (ℕ × List ℕ) → (second : ℕ) → Option (List ℕ)
root_among [] t = None
root_among (one ∷ others) t = if one.0 == t then Some one.1 else root_among others t

-- the root of a second
abbrev pub root_of : MirrorState → (second : ℕ) → Option (List ℕ)
root_of mirror t = root_among mirror.roots t

abbrev pub list_among : List SealedList → (second core : ℕ) → Option (List Item)
list_among [] t j = None
list_among (one ∷ others) t j = if one.second == t && one.core == j then Some one.items else list_among others t j

-- what a core sealed for a second
abbrev pub list_of : MirrorState → (second core : ℕ) → Option (List Item)
list_of mirror t j = list_among mirror.lists t j

-- ---- what every mirror keeps

-- the greatest number of a core
abbrev pub highest_core : ℕ
highest_core = 8

-- the place of a list among others: by its second first, and then by its core
abbrev pub rank_at : (second core : ℕ) → ℕ
rank_at t j = 16 * t + j

abbrev pub rank : SealedList → ℕ
rank one = rank_at one.second one.core

pub record IsRoot (one : ℕ × List ℕ) : Type 0 where
  pub early : one.0 < 2 ^ 63
  pub imprint : IsImprint one.1

pub record IsList (one : SealedList) : Type 0 where
  pub early : one.second < 2 ^ 63
  pub core : one.core ≤ highest_core
  pub some : 1 ≤ length one.items
  pub few : length one.items ≤ most_items
  pub items : AllByRecursion IsItem one.items

-- The start and all seconds are below 2^63, nothing is before the start, roots rise by second, and lists by second and
-- core; no list is empty.
pub record IsMirror (mirror : MirrorState) : Type 0 where
  pub start : mirror.start < 2 ^ 63
  pub roots : AllByRecursion IsRoot mirror.roots
  pub roots_rise : RiseFrom mirror.start (map (λ one. one.0) mirror.roots)
  pub lists : AllByRecursion IsList mirror.lists
  pub lists_rise : RiseFrom (rank_at mirror.start 0) (map rank mirror.lists)
