use Rattle.ksi_laws_logs.proofs.RoundForgetful.{log_agrees}
use Rattle.ksi_laws_logs.proofs.laws.forgetful_round_logs_are_logs.Goals as goal

pub returns : goal.returns
returns c = λ image plan k before rounds kept entries are agrees.
    let missed = c.dropped_rounds_are_not_missed.ensures in
    log_agrees image plan k missed.same (missed.after image) missed.restart missed.again entries before rounds kept are agrees
