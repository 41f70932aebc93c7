use Rattle.std.proofs.Common.{sym, ap, ◌∙◌, arith, subst}
use Rattle.std.proofs.lemmas.Bool.{cond-true, cond-false, le-leb, lt-leb}
use Rattle.ksi_synod.specs.Voters.{cores_below}
use Rattle.ksi_synod.specs.CorePlans.{CorePlanState, voters_of, AreVoters}
use Rattle.ksi_synod.proofs.Planning.{looked_back, plan_limits, all_cores}
use Rattle.ksi_synod.proofs.core_plan.CorePlan.voters_of.Goals as goal

pub loop-k-preserved : goal.loop-k-preserved
loop-k-preserved c = λ others.
    c.loop-k.invariant others
    ∙ looked_back c.self.inside others c.loop-k.k c.index-self-k.result c.args.second c.self.invariant (omega arith) (omega arith)
    ∙ cond-false _ _ _ (lt-leb _ _ c.if-pair-second.false)

pub returns-then-pair-second-clause-voters : goal.returns-then-pair-second-clause-voters
returns-then-pair-second-clause-voters c =
    sym (c.loop-k.invariant (cores_below c.self.inside.cores)
    ∙ looked_back c.self.inside (cores_below c.self.inside.cores) c.loop-k.k c.index-self-k.result c.args.second c.self.invariant (omega arith) (omega arith)
    ∙ cond-true _ _ _ (le-leb _ _ c.if-pair-second.true))
    ∙ ap (λ (plan : CorePlanState). voters_of plan c.args.second) c.self.view_is

pub returns-clause-cores : goal.returns-clause-cores
returns-clause-cores c =
    subst (AreVoters c.args.self.now.cores) (sym (c.all.ensures ∙ ap (λ (plan : CorePlanState). cores_below plan.cores) c.self.view_is))
    (all_cores c.args.self.now.cores (plan_limits c.self.inside c.args.self.now c.self.view_is c.self.invariant).some)
