use Rattle.std.proofs.Common.{◌≡◌, ◌∙◌, ◌<◌, ◌++◌, ◌∷◌, [], ℕ, List, refl, sym, ap, subst}
use Rattle.ksi_synod.specs.CorePlans.{CorePlanState}
use Rattle.ksi_corenode.specs.declared.fact.Fact.{Fact}
use Rattle.ksi_corenode.specs.Facts.{StableState, stable_state}
use Rattle.ksi_corenode.specs.CoreState.{state_of}
use Rattle.ksi_corenode.specs.Lawful.{stored_by, IsLawful, AreLawful}
use Rattle.ksi_corenode.specs.Restored.{IsOfFacts}
use Rattle.ksi_node_tests.proofs.facts.Kept.keep.Goals as goal

pub invariant_of-self-2 : goal.invariant_of-self-2
invariant_of-self-2 g c =
    let image = g.C.Compress.image in
    let plan = c.self.inside.plan in
    let core = c.self.inside.core in
    let facts : List Fact = c.self.inside.facts.items in
    let fact : Fact = c.args.fact in
    let are = c.self.invariant.3 in
    let law = c.one_core_of_facts.ensures in
    let lawful : IsLawful plan.cores plan.start (stored_by facts fact.second) fact =
    subst (λ (p : CorePlanState). IsLawful p.cores plan.start (stored_by facts fact.second) fact) are.planned
    (subst (λ (n : ℕ). IsLawful core.plan.cores n (stored_by facts fact.second) fact) are.begins
    (subst (λ (s : StableState). IsLawful core.plan.cores core.start s fact) (law.stored image 0 plan facts core are fact.second) (c.if-not-may_store.ensures.0 refl))) in
    subst (λ (all : List Fact). (0 < plan.cores) × (plan.start ≡ 1700000000) × AreLawful plan.cores plan.start all × IsOfFacts image 0 plan all c.store.new.self)
    (sym (c.push_reserved.ensures.items ∙ ap (λ (fs : List Fact). fs ++ fact ∷ []) c.in_ok-reserve.ensures.items)) (
      c.self.invariant.0,
      c.self.invariant.1,
      c.facts_one_by_one.ensures.more plan.cores plan.start facts fact c.self.invariant.2 lawful,
      law.next image 0 plan facts fact core c.store.new.self are c.in_ok-store.ensures.stored,
    )
