use Rattle.ksi_split.specs.Upward.{whole}
use Rattle.ksi_split.proofs.rows.Rows.leaf_counted.Goals as goal

pub returns-clause-leaf : goal.returns-clause-leaf
unfolding whole
returns-clause-leaf g c = c.part.ensures.part
