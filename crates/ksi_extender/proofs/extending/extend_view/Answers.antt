use Rattle.std.proofs.Common.{rules}
use Rattle.ksi_extender.proofs.extending.extend_view.Goals as goal

pub returns-clause-answer : goal.returns-clause-answer
returns-clause-answer g c = search rules
