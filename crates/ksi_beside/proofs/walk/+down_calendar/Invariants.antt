use Rattle.std.proofs.Common.{length}
use Rattle.ksi_beside.proofs.walk.+down_calendar.Given as goal

abbrev pub decreases-down_calendar : goal.decreases-down_calendar
decreases-down_calendar g l = length l.links.now
