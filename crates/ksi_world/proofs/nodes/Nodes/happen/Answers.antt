use Rattle.std.proofs.Common.{sym, subst}
use Rattle.std.proofs.lemmas.Result.{IfOk-weaker, on_err_weaker}
use Rattle.ksi_schedule.specs.declared.event.Event.{Event}
use Rattle.ksi_schedule.specs.declared.event.Event.TheVariants as events
use Rattle.ksi_corenode.specs.declared.event.CoreEvent.TheVariants as happenings
use Rattle.ksi_world.specs.Histories.{happens}
use Rattle.ksi_world.specs.Nodes.{Happened}
use Rattle.ksi_world.proofs.Fitting.{ready_core, asked_for}
use Rattle.ksi_world.proofs.nodes.Nodes.happen.Goals as goal

pub take-requires-clause-ready : goal.take-requires-clause-ready
take-requires-clause-ready g c = (c.args.plan.now, ready_core c.args.plan.now c.args.event.now (events.Seal c.in-Seal.core c.in-Seal.second) c.in-Seal.core c.in-Seal.second (happenings.Seal c.in-Seal.second) c.args.self.now c.requires c.in-Seal.is (λ at. at) (λ _ _ _ _. tt))

pub returns-in-Seal-clause-ok : goal.returns-in-Seal-clause-ok
unfolding happens
returns-in-Seal-clause-ok g c = IfOk-weaker c.take.result _ _
    (λ outcome took. subst (λ (e : Event). Happened g.C.Compress.image c.args.plan.now e c.args.self.now c.take.new.self outcome) (sym c.in-Seal.is) (took c.args.plan.now)) c.take.ensures.ok

pub returns-in-Seal-clause-err : goal.returns-in-Seal-clause-err
returns-in-Seal-clause-err g c = on_err_weaker c.take.result (λ still. still c.args.plan.now) c.take.ensures.err

pub take-requires-in-Ballot-clause-ready : goal.take-requires-in-Ballot-clause-ready
take-requires-in-Ballot-clause-ready g c = (c.args.plan.now, ready_core c.args.plan.now c.args.event.now (events.Ballot c.in-Ballot.core c.in-Ballot.second) c.in-Ballot.core c.in-Ballot.second (happenings.Ballot c.in-Ballot.second) c.args.self.now c.requires c.in-Ballot.is (λ at. at) (λ _ _ _ _. tt))

pub returns-in-Ballot-clause-ok : goal.returns-in-Ballot-clause-ok
unfolding happens
returns-in-Ballot-clause-ok g c = IfOk-weaker c.take-in-Ballot.result _ _
    (λ outcome took. subst (λ (e : Event). Happened g.C.Compress.image c.args.plan.now e c.args.self.now c.take-in-Ballot.new.self outcome) (sym c.in-Ballot.is) (took c.args.plan.now)) c.take-in-Ballot.ensures.ok

pub returns-in-Ballot-clause-err : goal.returns-in-Ballot-clause-err
returns-in-Ballot-clause-err g c = on_err_weaker c.take-in-Ballot.result (λ still. still c.args.plan.now) c.take-in-Ballot.ensures.err

pub take-requires-in-Tell-clause-ready : goal.take-requires-in-Tell-clause-ready
take-requires-in-Tell-clause-ready g c = (c.args.plan.now, ready_core c.args.plan.now c.args.event.now (events.Tell c.in-Tell.core c.in-Tell.second) c.in-Tell.core c.in-Tell.second (happenings.Tell c.in-Tell.second) c.args.self.now c.requires c.in-Tell.is (λ at. at) (λ _ _ _ _. tt))

pub returns-in-Tell-clause-ok : goal.returns-in-Tell-clause-ok
unfolding happens
returns-in-Tell-clause-ok g c = IfOk-weaker c.take-in-Tell.result _ _
    (λ outcome took. subst (λ (e : Event). Happened g.C.Compress.image c.args.plan.now e c.args.self.now c.take-in-Tell.new.self outcome) (sym c.in-Tell.is) (took c.args.plan.now)) c.take-in-Tell.ensures.ok

pub returns-in-Tell-clause-err : goal.returns-in-Tell-clause-err
returns-in-Tell-clause-err g c = on_err_weaker c.take-in-Tell.result (λ still. still c.args.plan.now) c.take-in-Tell.ensures.err

pub take-requires-in-Respond-clause-ready : goal.take-requires-in-Respond-clause-ready
take-requires-in-Respond-clause-ready g c = (c.args.plan.now, ready_core c.args.plan.now c.args.event.now (events.Respond c.in-Respond.core c.in-Respond.second) c.in-Respond.core c.in-Respond.second (happenings.Respond c.in-Respond.second) c.args.self.now c.requires c.in-Respond.is (λ at. at) (asked_for c.args.plan.now c.in-Respond.second))

pub returns-in-Respond-clause-ok : goal.returns-in-Respond-clause-ok
unfolding happens
returns-in-Respond-clause-ok g c = IfOk-weaker c.take-in-Respond.result _ _
    (λ outcome took. subst (λ (e : Event). Happened g.C.Compress.image c.args.plan.now e c.args.self.now c.take-in-Respond.new.self outcome) (sym c.in-Respond.is) (took c.args.plan.now)) c.take-in-Respond.ensures.ok

pub returns-in-Respond-clause-err : goal.returns-in-Respond-clause-err
returns-in-Respond-clause-err g c = on_err_weaker c.take-in-Respond.result (λ still. still c.args.plan.now) c.take-in-Respond.ensures.err

pub returns-in-Publish-clause-err : goal.returns-in-Publish-clause-err
returns-in-Publish-clause-err g c = on_err_weaker c.publish.result (λ still. still c.args.plan.now) c.publish.ensures.err
