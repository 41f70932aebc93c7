use Rattle.std.proofs.Common.{arith}
use Rattle.ksi_split.proofs.Powers.{exponent_below}
use Rattle.ksi_split.proofs.levels.levels.Goals as goal

pub returns-else-n-eq0-clause-least : goal.returns-else-n-eq0-clause-least
returns-else-n-eq0-clause-least c k small = omega (arith, exponent_below c.ilog2.result k (omega (arith, c.ilog2.ensures.power_le, small)))
