use Rattle.std.proofs.Common.{rules}
use Rattle.ksi_calendar.proofs.calendar.Calendar.covers.Goals as goal

pub returns-then-start-p : goal.returns-then-start-p
returns-then-start-p g c = search rules
