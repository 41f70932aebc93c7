use Rattle.std.proofs.Common.{rules}
use Rattle.ksi_signature.proofs.extension.is_retained.Goals as goal

pub returns-in-2050 : goal.returns-in-2050
returns-in-2050 c = search rules
