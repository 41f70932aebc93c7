use Rattle.std.proofs.lemmas.Grind.{common_steps}
use Rattle.std.proofs.Common.{arith}
use Rattle.ksi_publications.proofs.publications.first_of.Goals as goal

pub returns-then-pair-time : goal.returns-then-pair-time
returns-then-pair-time c = grind (arith, common_steps)
