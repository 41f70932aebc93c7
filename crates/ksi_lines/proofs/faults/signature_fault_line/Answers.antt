use Rattle.std.proofs.Common.{rules}
use Rattle.ksi_lines.proofs.faults.signature_fault_line.Goals as goal

pub returns-in-After : goal.returns-in-After
returns-in-After c = search rules
