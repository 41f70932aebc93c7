use Rattle.std.proofs.Common.{[], sym, subst}
use Rattle.ksi_synod.specs.CorePlans.{CorePlanState}
use Rattle.ksi_schedule.specs.Plans.{IsPlan}
use Rattle.ksi_replay.proofs.Planned.{is_plan}
use Rattle.ksi_replay.proofs.plan.planned.Goals as goal

pub invariant_of-result : goal.invariant_of-result
invariant_of-result c =
    subst (λ (plan : CorePlanState). IsPlan (record { cores = plan.cores; start = plan.start; voters = plan.voters; parents = c.args.parents })) (sym c.new.ensures.plan)
    (subst (λ parents. IsPlan (record { cores = 3; start = 1700000000; voters = []; parents = parents })) (sym c.requires) is_plan)
