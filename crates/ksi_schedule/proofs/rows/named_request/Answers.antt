use Rattle.std.proofs.Common.{rules}
use Rattle.ksi_schedule.specs.Words.{form_at}
use Rattle.ksi_schedule.proofs.rows.named_request.Goals as goal

pub returns-clause-value : goal.returns-clause-value
unfolding form_at
returns-clause-value c = search rules
