use Rattle.std.proofs.Common.{sym, subst, arith}
use Rattle.std.proofs.lemmas.Result.{IfOk-weaker, on_err_weaker}
use Rattle.ksi_aggregator.specs.Rows.{round_submission}
use Rattle.ksi_world.specs.Nodes.{NodesState, Fits}
use Rattle.ksi_world.proofs.Fitting.{round_fits, round_stands, both_errors}
use Rattle.ksi_world.proofs.Depths.{aggregator_parent}
use Rattle.ksi_world.proofs.Sending.{leaf_most}
use Rattle.ksi_world.proofs.nodes.Nodes.item_to_aggregator.Goals as goal

pub returns-clause-ok : goal.returns-clause-ok
returns-clause-ok g c = IfOk-weaker c.submission.result _ _
    (λ outcome step w fits.
    round_fits c.args.plan.now w c.self.inside.cores.items c.self.inside.cores.items c.self.inside.aggregators.items c.submission.new.aggregators.items c.self.inside.wire c.submission.new.wire c.self.inside.requests.items c.self.inside.requests.items c.self.inside.published c.self.inside.published
    (subst (λ (n : NodesState). Fits c.args.plan.now w n) (sym c.self.view_is) fits) (round_submission c.args.from c.args.item) c.args.to c.args.second outcome step)
    c.submission.ensures.ok

pub returns-clause-err : goal.returns-clause-err
returns-clause-err g c = on_err_weaker c.submission.result
    (λ stayed w fits.
    round_stands c.args.plan.now w c.self.inside.cores.items c.self.inside.cores.items c.self.inside.aggregators.items c.submission.new.aggregators.items c.self.inside.wire c.submission.new.wire c.self.inside.requests.items c.self.inside.requests.items c.self.inside.published c.self.inside.published
    (subst (λ (n : NodesState). Fits c.args.plan.now w n) (sym c.self.view_is) fits) stayed.0 stayed.1)
    (both_errors _ _ c.submission.result c.submission.ensures.aggregators c.submission.ensures.wire)

pub submission-requires-clause-there : goal.submission-requires-clause-there
submission-requires-clause-there g c =
    let fits = subst (λ (n : NodesState). Fits c.args.plan.now c.requires.world n) (sym c.self.view_is) c.requires.fits in
    omega (arith, fits.aggregators.many, aggregator_parent c.args.plan.now c.requires.plan_is c.args.from c.args.to c.requires.sent.0 c.requires.sent.1)

pub submission-requires-clause-planned : goal.submission-requires-clause-planned
submission-requires-clause-planned g c = aggregator_parent c.args.plan.now c.requires.plan_is c.args.from c.args.to c.requires.sent.0 c.requires.sent.1

pub submission-requires-clause-level : goal.submission-requires-clause-level
submission-requires-clause-level g c = omega (arith, c.requires.sent.2, leaf_most c.args.item)
