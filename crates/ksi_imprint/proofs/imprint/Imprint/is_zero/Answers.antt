use Rattle.std.proofs.Common.{rules}
use Rattle.ksi_imprint.proofs.imprint.Imprint.is_zero.Goals as goal

pub returns : goal.returns
returns c = search rules
