use Rattle.std.proofs.Common.{◌≡◌}
use Rattle.ksi_split.specs.Upward.{halves, node}
use Rattle.ksi_split.specs.Leaves.{leaf_of}
use Rattle.ksi_split.proofs.rows.Rows.border.Given as goal

abbrev pub invariant-loop-level : goal.invariant-loop-level
invariant-loop-level g l = l.border ≡ node g.J.Joins.joined (leaf_of l.self) l.last l.level (halves l.level l.last)
