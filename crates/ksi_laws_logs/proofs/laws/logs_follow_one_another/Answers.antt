use Rattle.ksi_laws_logs.proofs.Forgetful.{one_log}
use Rattle.ksi_laws_logs.proofs.laws.logs_follow_one_another.Goals as goal

pub returns : goal.returns
returns c = one_log
