use Rattle.std.proofs.Common.{rules}
use Rattle.ksi_extender.proofs.extending.check_kept.Goals as goal

pub returns-clause-least : goal.returns-clause-least
returns-clause-least g c = search rules
