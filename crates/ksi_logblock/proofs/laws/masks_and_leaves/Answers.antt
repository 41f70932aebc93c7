use Rattle.ksi_imprint.specs.Imprints.{zero_imprint}
use Rattle.ksi_logblock.proofs.Leaves.{leaf_here, leaves_count}
use Rattle.ksi_logblock.proofs.laws.masks_and_leaves.Goals as goal

pub returns-clause-leaf : goal.returns-clause-leaf
returns-clause-leaf c = λ image block k within. leaf_here image block.seed zero_imprint block.lines k zero_imprint within

pub returns-clause-count : goal.returns-clause-count
returns-clause-count c = λ image block. leaves_count image block.seed zero_imprint block.lines
