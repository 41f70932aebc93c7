use Rattle.std.proofs.Common.{◌≡◌, ◌+◌, ◌-◌, ◌*◌, ◌<◌, ◌≤◌, length, Some, None}
use Rattle.ksi_split.specs.Upward.{halves, node, links_up}
use Rattle.ksi_split.specs.Leaves.{leaf_of}
use Rattle.ksi_split.proofs.rows.Rows.path_counted.Given as goal

abbrev pub invariant-loop-level : goal.invariant-loop-level
invariant-loop-level g l = record {
  at : l.at ≡ halves l.level l.t;
  path : l.path.items ≡ links_up g.J.Joins.joined (leaf_of l.self) l.last l.level l.t;
  border : l.at < halves l.level l.last → l.border ≡ Some (node g.J.Joins.joined (leaf_of l.self) l.last l.level (halves l.level l.last));
  none : halves l.level l.last ≤ l.at → l.border ≡ None;
  cost : l.steps ≤ l.fn.steps + 2 * l.level + 1;
  merged : l.at ≡ halves l.level l.last → l.steps ≤ l.fn.steps + (2 * l.level - 1);
  least : l.fn.steps + length l.path.items ≤ l.steps;
  read : l.at < halves l.level l.last → l.fn.steps + length l.path.items + 1 ≤ l.steps;
}
