use Rattle.std.proofs.Common.{◌≡◌, ◌+◌, ◌<◌, ◌≤◌, drop}
use Rattle.ksi_split.specs.Parts.{part_at}
use Rattle.ksi_split.proofs.Ways.{part_of}
use Rattle.ksi_split.proofs.Sized.{IsPart}
use Rattle.ksi_split.proofs.rows.Rows.node_counted.Given as goal

abbrev pub invariant-loop-side : goal.invariant-loop-side
invariant-loop-side g l = record {
  left : part_at l.side-index (part_of l.first l.count) (drop l.side-index l.sides) ≡ part_at 0 (part_of 0 (l.last + 1)) l.sides;
  part : IsPart l.last l.first l.count;
  within : l.first + l.count ≤ l.last + 1;
  some : 0 < l.count;
}
