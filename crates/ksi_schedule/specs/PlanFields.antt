-- What the fields of a Plan mean.
use Rattle.ksi_schedule.specs.Plans.{PlanState}
use Rattle.ksi_schedule.specs.declared.plan.Plan.TheInside.{Inside}

abbrev pub plan_of : Inside → PlanState
plan_of a = record { cores = a.core_plan.cores; start = a.core_plan.start; voters = a.core_plan.voters; parents = a.parents }
