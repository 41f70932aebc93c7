use Rattle.std.proofs.Common.{◌≡◌, ℕ, ◌+◌, ◌<◌, ◌≤◌, ◌++◌, ◌∷◌, []}
use Rattle.ksi_split.specs.Upward.{halves, whole}
use Rattle.ksi_split.specs.Leaves.{leaf_at}
use Rattle.ksi_split.specs.Stored.{row_at, room_at, row_of}
use Rattle.ksi_split.proofs.levels.add.Given as goal

abbrev pub invariant-loop-level : goal.invariant-loop-level
invariant-loop-level g l =
    let joined = g.J.Joins.joined in
    let leaf = leaf_at l.zeros.start l.zeros.leaf (row_at l.fn.rows.items 0 ++ l.fn.leaf ∷ []) in
    record {
      at : l.at ≡ halves l.level l.n;
      node : l.node ≡ whole joined leaf l.level (halves l.level l.n);
      done : (k : ℕ) → k < l.level → row_at l.rows.items k ≡ row_of joined leaf l.zeros.start (l.n + 1) k;
      rest : (k : ℕ) → l.level ≤ k → row_at l.rows.items k ≡ row_at l.fn.rows.items k;
      room : (k : ℕ) → l.level ≤ k → room_at l.rows.items k ≡ room_at l.fn.rows.items k;
      taken : (k : ℕ) → k < l.level → room_at l.rows.items k + 1 ≡ room_at l.fn.rows.items k;
    }
