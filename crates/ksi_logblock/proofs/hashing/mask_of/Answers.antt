use Rattle.std.proofs.lemmas.Grind.{common_steps}
use Rattle.std.proofs.Common.{arith}
use Rattle.ksi_logblock.proofs.hashing.mask_of.Goals as goal

pub returns-else-k-eq0 : goal.returns-else-k-eq0
returns-else-k-eq0 g c = grind (arith, common_steps)
