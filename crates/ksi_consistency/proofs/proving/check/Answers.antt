use Rattle.std.proofs.Common.{rules}
use Rattle.ksi_consistency.proofs.proving.check.Goals as goal

pub returns : goal.returns
returns g c = search rules
