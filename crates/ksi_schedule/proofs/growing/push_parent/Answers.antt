use Rattle.std.proofs.Common.{List, ◌++◌, ◌∷◌, [], subst, sym}
use Rattle.ksi_schedule.specs.declared.parent.Parent.{Parent}
use Rattle.ksi_synod.specs.CorePlans.{CorePlanState}
use Rattle.ksi_schedule.specs.Plans.{PlanState, IsPlan}
use Rattle.ksi_schedule.specs.Lines.{with_parent}
use Rattle.ksi_schedule.proofs.Next.{plan_next, either_way}
use Rattle.ksi_schedule.proofs.growing.push_parent.Goals as goal

with_parents : CorePlanState → List Parent → PlanState
with_parents plan parents = record { cores = plan.cores; start = plan.start; voters = plan.voters; parents = parents }

pub invariant_of-plan : goal.invariant_of-plan
unfolding with_parents
invariant_of-plan c =
    let more : IsPlan (with_parent c.args.plan.now c.args.parent) =
    plan_next c.args.plan.now c.args.parent (subst IsPlan c.plan.view_is c.plan.invariant) c.requires.room c.requires.there c.requires.named c.requires.low in
    let here : IsPlan (with_parents c.plan.inside.core_plan (c.plan.inside.parents ++ c.args.parent ∷ [])) =
    subst (λ (plan : PlanState). IsPlan (with_parent plan c.args.parent)) (sym c.plan.view_is) more in
    either_way (λ (parents : List Parent). IsPlan (with_parents c.plan.inside.core_plan parents)) c.push.result c.push.new.self _ _ c.push.ensures.ok c.push.ensures.err here c.plan.invariant
