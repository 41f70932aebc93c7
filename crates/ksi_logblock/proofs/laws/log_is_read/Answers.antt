use Rattle.ksi_logblock.proofs.LogReads.{lines_read, refusal_read}
use Rattle.ksi_logblock.proofs.laws.log_is_read.Goals as goal

pub returns-clause-lines : goal.returns-clause-lines
returns-clause-lines c log lines = lines_read log lines

pub returns-clause-refusal : goal.returns-clause-refusal
returns-clause-refusal c log refusal = refusal_read log refusal
