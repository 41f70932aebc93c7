use Rattle.std.proofs.Common.{rules}
use Rattle.ksi_lines.proofs.faults.line_code.Goals as goal

pub returns-in-Name-clause-code : goal.returns-in-Name-clause-code
returns-in-Name-clause-code c = search rules
