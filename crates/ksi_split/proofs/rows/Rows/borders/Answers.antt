use Rattle.std.proofs.Common.{length, ap, arith}
use Rattle.ksi_split.specs.Upward.{node, whole}
use Rattle.ksi_split.proofs.rows.Rows.borders.Goals as goal

pub loop-level-init : goal.loop-level-init
unfolding whole node
loop-level-init g c = record {
  length = ap length c.in_ok-borders.ensures.items;
  border = c.part-border.ensures.part;
  parts = λ k d lt. absurd (omega arith);
}
