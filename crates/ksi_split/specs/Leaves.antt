-- The leaves of a tree that grows at its end.
use Rattle.std.specs.Prelude.{ℕ, ◌-◌, nat_lt, List, slice_index_or, if◌then◌else◌}

-- the leaves: `start` of them are `before`, then come the ones that were added
pub record Leaves (A : Type 0) : Type 0 where
  pub start : ℕ
  pub before : A
  pub items : List A

-- leaf i; the first `start` are `before`
abbrev pub leaf_at : {A : Type 0} → ℕ → A → List A → ℕ → A
leaf_at start before items i = if nat_lt i start then before else slice_index_or items (i - start) before

-- the leaf at a place
abbrev pub leaf_of : {A : Type 0} → Leaves A → ℕ → A
leaf_of leaves = leaf_at leaves.start leaves.before leaves.items

-- a tree over the leaves from 0 to a last one
pub record TreeTo (A : Type 0) : Type 0 where
  pub leaves : Leaves A
  pub last : ℕ
