use Rattle.std.proofs.Common.{◌≡◌}
use Rattle.ksi_split.specs.Upward.{halves, links_up}
use Rattle.ksi_split.specs.Leaves.{leaf_of}
use Rattle.ksi_split.proofs.paths.path_beside.Given as goal

abbrev pub invariant-loop-level : goal.invariant-loop-level
invariant-loop-level g l = record {
  at : l.at ≡ halves l.level l.t;
  path : l.path.items ≡ links_up g.J.Joins.joined (leaf_of l.rows) l.last l.level l.t;
}
