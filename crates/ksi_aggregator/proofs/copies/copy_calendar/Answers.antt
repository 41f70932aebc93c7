use Rattle.std.proofs.Common.{rules}
use Rattle.ksi_aggregator.proofs.copies.copy_calendar.Goals as goal

pub returns : goal.returns
returns c = search rules
