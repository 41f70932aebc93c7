use Rattle.std.proofs.lemmas.Grind.{common_steps}
use Rattle.std.proofs.Common.{arith}
use Rattle.ksi_verifier.proofs.chains.check_chains.Goals as goal

pub returns-in-Ok-check_metadata : goal.returns-in-Ok-check_metadata
returns-in-Ok-check_metadata g c = grind (arith, common_steps)
