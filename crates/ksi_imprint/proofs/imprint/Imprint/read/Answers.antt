use Rattle.std.proofs.Common.{rules}
use Rattle.ksi_imprint.proofs.imprint.Imprint.read.Goals as goal

pub returns-in-len1-up : goal.returns-in-len1-up
returns-in-len1-up c = search rules
