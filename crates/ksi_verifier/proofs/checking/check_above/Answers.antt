use Rattle.std.proofs.Common.{rules}
use Rattle.ksi_verifier.proofs.checking.check_above.Goals as goal

pub returns-in-Err-check_second : goal.returns-in-Err-check_second
returns-in-Err-check_second g c = search rules

pub returns-in-Ok-check_published : goal.returns-in-Ok-check_published
returns-in-Ok-check_published g c = search rules

pub returns-in-Err-check_published : goal.returns-in-Err-check_published
returns-in-Err-check_published g c = search rules
