use Rattle.std.proofs.Common.{rules}
use Rattle.ksi_aggtree.proofs.item.Item.leaf.Goals as goal

pub returns-in-Some-clause-leaf : goal.returns-in-Some-clause-leaf
returns-in-Some-clause-leaf g c = search rules
