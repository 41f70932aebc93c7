use Rattle.std.proofs.Common.{◌≡◌, ◌<◌, List, sym, ap, subst, arith}
use Rattle.ksi_synod.specs.CorePlans.{CorePlanState}
use Rattle.ksi_corenode.specs.declared.fact.Fact.{Fact}
use Rattle.ksi_corenode.specs.Lawful.{AreLawful}
use Rattle.ksi_corenode.specs.Restored.{IsOfFacts}
use Rattle.ksi_node_tests.proofs.facts.Kept.new.Goals as goal

pub invariant_of-result : goal.invariant_of-result
invariant_of-result g c =
    let image = g.C.Compress.image in
    let plan = c.new-plan.result in
    let core = c.new-2 in
    subst (λ (facts : List Fact). (0 < plan.cores) × (plan.start ≡ 1700000000) × AreLawful plan.cores plan.start facts × IsOfFacts image 0 plan facts core.result) (sym c.new.ensures.items) (
      omega (arith, ap (λ (p : CorePlanState). p.cores) c.new-plan.ensures.plan),
      ap (λ (p : CorePlanState). p.start) c.new-plan.ensures.plan,
      c.facts_one_by_one.ensures.none plan.cores plan.start,
      c.one_core_of_facts.ensures.none image 0 plan core.result core.ensures.me core.ensures.plan core.ensures.start core.ensures.seconds,
    )
