use Rattle.std.proofs.Common.{arith}
use Rattle.ksi_logblock.proofs.locating.line_named.Goals as goal

pub returns-in-Ok-clause-there : goal.returns-in-Ok-clause-there
returns-in-Ok-clause-there g c =
    let named = (c.second_of.ensures.second c.in-Ok.k).0 c.in-Ok.is in
    omega (arith, named.within, c.requires, c.count.ensures.count)
