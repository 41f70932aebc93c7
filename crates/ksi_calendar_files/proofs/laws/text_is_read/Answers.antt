use Rattle.ksi_calendar_files.proofs.Again.{again}
use Rattle.ksi_calendar_files.proofs.laws.text_is_read.Goals as goal

pub returns : goal.returns
returns c = again
