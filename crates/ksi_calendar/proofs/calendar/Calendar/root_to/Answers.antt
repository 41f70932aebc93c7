use Rattle.std.proofs.Common.{rules}
use Rattle.ksi_calendar.proofs.calendar.Calendar.root_to.Goals as goal

pub returns-then-covers : goal.returns-then-covers
returns-then-covers g c = search rules
