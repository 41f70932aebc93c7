use Rattle.std.proofs.Common.{rules}
use Rattle.ksi_schedule.proofs.cut.next_line.Goals as goal

pub returns-in_default-None : goal.returns-in_default-None
returns-in_default-None c = search rules
