use Rattle.ksi_calendar.proofs.Knowing.{covered_too, seconds_same}
use Rattle.ksi_calendar.proofs.laws.more_is_known.Goals as goal

pub returns-clause-covered : goal.returns-clause-covered
returns-clause-covered c = covered_too

pub returns-clause-seconds : goal.returns-clause-seconds
returns-clause-seconds c = seconds_same
