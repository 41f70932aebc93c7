use Rattle.std.proofs.Common.{rules}
use Rattle.ksi_logblock.proofs.hashing.leaf_of.Goals as goal

pub returns : goal.returns
returns g c = search rules
