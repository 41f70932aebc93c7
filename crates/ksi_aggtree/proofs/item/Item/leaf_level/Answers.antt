use Rattle.std.proofs.Common.{rules}
use Rattle.ksi_aggtree.proofs.item.Item.leaf_level.Goals as goal

pub returns-in-Some : goal.returns-in-Some
returns-in-Some c = search rules
