use Rattle.std.proofs.Common.{◌≡◌, ℕ, ◌+◌, ◌≤◌, ◌++◌, take, length}
use Rattle.ksi_split.specs.Upward.{halves}
use Rattle.ksi_split.specs.Stored.{row_at, room_at, AreRows}
use Rattle.ksi_split.proofs.levels.add_all.Given as goal

abbrev pub invariant-loop-i : goal.invariant-loop-i
invariant-loop-i g l = record {
  items : row_at l.rows.items 0 ≡ row_at l.fn.rows.items 0 ++ take l.i l.leaves;
  rows : AreRows g.J.Joins.joined l.zeros.start l.zeros.leaf l.rows.items;
  room : (k : ℕ) → halves k (l.n + length l.leaves) ≤ halves k (l.n + l.i) + room_at l.rows.items k;
}
