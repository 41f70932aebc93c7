use Rattle.ksi_schedule.specs.Plans.{core_plan_of}
use Rattle.std.proofs.Common.{[], ◌∷◌, length, length-append, sym, ap, ◌∙◌, arith, inl, inr}
use Rattle.std.specs.Prelude.{slice_get}
use Rattle.ksi_synod.specs.CorePlans.{CorePlanState}
use Rattle.ksi_corenode.specs.SecondState.{fresh_second}
use Rattle.ksi_corenode.specs.CoreState.{CoreState, state_of}
use Rattle.ksi_world.proofs.Turning.{get_push}
use Rattle.ksi_world.proofs.cores.new.Goals as goal

pub adding-preserved : goal.adding-preserved
adding-preserved g c =
    let items = c.in_ok-push.ensures.items in
    let old = c.adding.invariant in
    let core_plan = c.core_plan-core_plan.ensures.plan in
    record {
      many = omega (arith, ap length items, length-append c.adding.cores.items (c.new.result ∷ []), old.many);
      each = λ j core at. elim (get_push c.adding.cores.items c.new.result j core (ap (λ xs. slice_get xs j) (sym items) ∙ at)) [
        | inl there ↦ old.each j core there
        | inr new ↦ let same = sym old.many ∙ sym new.0 in record {
          me = ap (λ (z : CoreState). z.me) new.1 ∙ c.new.ensures.me ∙ same;
          core_plan = ap (λ (z : CoreState). z.plan) new.1 ∙ c.new.ensures.plan ∙ core_plan;
          start = ap (λ (z : CoreState). z.start) new.1 ∙ c.new.ensures.start ∙ ap (λ (p : CorePlanState). p.start) core_plan;
          keeps = λ t. ap (λ (z : CoreState). state_of z t) new.1 ∙ c.new.ensures.seconds t ∙ ap (λ (p : CorePlanState). fresh_second c.adding.me p t) core_plan ∙ ap (λ j. fresh_second j (core_plan_of c.args.plan.now) t) same;
        }
      ];
    }
