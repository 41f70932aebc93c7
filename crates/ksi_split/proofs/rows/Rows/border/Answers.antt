use Rattle.ksi_split.specs.Upward.{whole, node}
use Rattle.ksi_split.proofs.rows.Rows.border.Goals as goal

pub loop-level-init : goal.loop-level-init
unfolding whole node
loop-level-init g c = c.part-border.ensures.part
