use Rattle.std.proofs.Common.{◌≡◌, ◌<◌, ℕ, length, slice_index_or}
use Rattle.ksi_split.specs.Upward.{halves, node}
use Rattle.ksi_split.specs.Leaves.{leaf_of}
use Rattle.ksi_split.proofs.rows.Rows.borders.Given as goal

abbrev pub invariant-loop-level : goal.invariant-loop-level
invariant-loop-level g l = record {
  length : length l.borders.items ≡ l.level;
  border : l.border ≡ node g.J.Joins.joined (leaf_of l.self) l.last l.level (halves l.level l.last);
  parts : (k : ℕ) (d : g.row.N.Denot) → k < l.level → slice_index_or l.borders.items k d ≡ node g.J.Joins.joined (leaf_of l.self) l.last k (halves k l.last);
}
