-- The hash calendar: a tree with one leaf for each second from 0.
use Rattle.std.specs.Prelude.{ℕ, ◌+◌, ◌-◌, List, length, slice_index_or, Option, None, Some, nat_lt, nat_le, ◌&&◌, Bool, if◌then◌else◌}
use Rattle.ksi_imprint.specs.Imprints.{zero_imprint}
use Rattle.ksi_split.specs.Trees.{tree, path_of, node_at}
use Rattle.ksi_split.specs.declared.side.Side.{Side}
use Rattle.ksi_split.specs.declared.tree_link.TreeLink.{TreeLink}
use Rattle.ksi_calendar.specs.Climbing.{calendar_join}

-- the start, and the roots of the seconds from it on
pub record Seconds : Type 0 where
  pub start : ℕ
  pub roots : List (List ℕ)

-- the leaf of a second: the zero imprint before the start, else its root
abbrev pub calendar_leaf : Seconds → ℕ → List ℕ
calendar_leaf seconds t = if nat_lt t seconds.start then zero_imprint else slice_index_or seconds.roots (t - seconds.start) zero_imprint

-- the calendar tree over the n seconds from lo
abbrev pub calendar_tree : (List ℕ → List ℕ) → Seconds → ℕ → ℕ → List ℕ
calendar_tree image seconds lo n = tree (calendar_join image) (calendar_leaf seconds) lo n

-- the root of the seconds from 0 to p
abbrev pub calendar_root : (List ℕ → List ℕ) → Seconds → ℕ → List ℕ
calendar_root image seconds p = calendar_tree image seconds 0 (p + 1)

-- the chain of second t: the links from its leaf up to the root of the seconds from 0 to p
abbrev pub calendar_path : (List ℕ → List ℕ) → Seconds → ℕ → ℕ → List (TreeLink (List ℕ))
calendar_path image seconds t p = path_of (calendar_join image) (calendar_leaf seconds) 0 t (p + 1)

-- whether p is at or after the start, and every second from there to p has a root
abbrev pub is_covered : Seconds → ℕ → Bool
is_covered seconds p = nat_le seconds.start p && nat_lt p (seconds.start + length seconds.roots)

-- the root of the seconds from 0 to p, if p is covered
abbrev pub root_to : (List ℕ → List ℕ) → Seconds → ℕ → Option (List ℕ)
root_to image seconds p = if is_covered seconds p then Some (calendar_root image seconds p) else None

-- the node that sides lead to, from the top of the tree over the seconds from 0 to p, if p is covered and they pass no leaf
abbrev pub node_of : (List ℕ → List ℕ) → Seconds → ℕ → List Side → Option (List ℕ)
node_of image seconds p sides = if is_covered seconds p then node_at (calendar_join image) (calendar_leaf seconds) p sides else None
