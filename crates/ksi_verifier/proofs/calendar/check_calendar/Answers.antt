use Rattle.std.proofs.Common.{rules}
use Rattle.ksi_verifier.proofs.calendar.check_calendar.Goals as goal

pub returns : goal.returns
returns c = search rules
