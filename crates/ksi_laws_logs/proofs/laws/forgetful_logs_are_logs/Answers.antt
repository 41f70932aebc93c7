use Rattle.ksi_schedule.specs.Plans.{core_plan_of}
use Rattle.ksi_laws_logs.proofs.Forgetful.{log_agrees}
use Rattle.ksi_laws_logs.proofs.laws.forgetful_logs_are_logs.Goals as goal

pub returns : goal.returns
returns c = λ image plan j seconds forgot entries are agrees.
    log_agrees image plan j (c.forgetting_is_not_noticed.ensures.alike image (core_plan_of plan) plan.start j) (c.forgetting_is_not_noticed.ensures.after image (core_plan_of plan) plan.start j)
    c.forgetting_is_not_noticed.ensures.restart c.forgetting_is_not_noticed.ensures.again entries seconds forgot are agrees
