use Rattle.std.proofs.Common.{[], subst}
use Rattle.std.proofs.lemmas.Result.{IfOk-weaker}
use Rattle.ksi_synod.specs.CorePlans.{CorePlanState}
use Rattle.ksi_node_file.specs.Followed.{IsOpened}
use Rattle.ksi_node_file.proofs.Onwards.{follows_first}
use Rattle.ksi_node_file.proofs.following.first.Goals as goal

pub returns : goal.returns
returns g c = IfOk-weaker c.empty_store.result _ _
    (λ store is. follows_first g.C.Compress.image c.args.plan.now c.args.core store (subst (λ (p : CorePlanState). IsOpened g.C.Compress.image c.args.core p [] store) c.core_plan.ensures.plan is)) c.empty_store.ensures
