use Rattle.std.proofs.Common.{rules}
use Rattle.ksi_logblock.proofs.hashing.mask_behind.Goals as goal

pub returns : goal.returns
returns g c = search rules
