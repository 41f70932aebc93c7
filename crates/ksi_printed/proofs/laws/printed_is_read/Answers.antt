use Rattle.ksi_printed.proofs.Again.{printed_is_read}
use Rattle.ksi_printed.proofs.laws.printed_is_read.Goals as goal

pub returns : goal.returns
returns c = printed_is_read
