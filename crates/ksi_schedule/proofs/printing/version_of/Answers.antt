use Rattle.std.proofs.Common.{rules}
use Rattle.ksi_schedule.proofs.printing.version_of.Goals as goal

pub returns-else-ask_named : goal.returns-else-ask_named
returns-else-ask_named c = search rules
