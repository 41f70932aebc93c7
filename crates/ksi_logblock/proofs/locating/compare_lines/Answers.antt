use Rattle.std.proofs.Common.{rules}
use Rattle.ksi_logblock.proofs.locating.compare_lines.Goals as goal

pub returns-clause-answer : goal.returns-clause-answer
returns-clause-answer g c = search rules
