use Rattle.std.proofs.Common.{◌≡◌, ℕ, ◌+◌, ◌<◌, length, slice_get, Some}
use Rattle.ksi_corenode.specs.CoreState.{held_by}
use Rattle.ksi_corenode.specs.Kept.{held_with}
use Rattle.ksi_corenode.proofs.growing.roots_from.Given as goal

abbrev pub invariant-following : goal.invariant-following
invariant-following g l = record {
  here : l.second + length l.roots.items ≡ l.t;
  some : l.second < l.t;
  roots : (k : ℕ) → k < length l.roots.items → held_with (held_by l.seconds) l.second (Some l.fn.root) (l.second + k) ≡ slice_get l.roots.items k;
}
