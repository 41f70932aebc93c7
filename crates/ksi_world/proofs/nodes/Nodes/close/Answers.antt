use Rattle.std.proofs.Common.{sym, subst}
use Rattle.std.proofs.lemmas.Result.{IfOk-weaker, on_err_weaker}
use Rattle.ksi_aggregator.specs.Rows.{round_close}
use Rattle.ksi_world.specs.Histories.{happens}
use Rattle.ksi_world.specs.Nodes.{NodesState, Fits}
use Rattle.ksi_world.proofs.Fitting.{round_fits, round_stands, both_errors}
use Rattle.ksi_world.proofs.nodes.Nodes.close.Goals as goal

pub returns-clause-ok : goal.returns-clause-ok
unfolding happens
returns-clause-ok g c = IfOk-weaker c.close.result _ _
    (λ outcome step w fits.
    round_fits c.args.plan.now w c.self.inside.cores.items c.self.inside.cores.items c.self.inside.aggregators.items c.close.new.aggregators.items c.self.inside.wire c.close.new.wire c.self.inside.requests.items c.self.inside.requests.items c.self.inside.published c.self.inside.published
    (subst (λ (n : NodesState). Fits c.args.plan.now w n) (sym c.self.view_is) fits) (round_close g.C.Compress.image) c.args.aggregator c.args.second outcome step)
    c.close.ensures.ok

pub returns-clause-err : goal.returns-clause-err
returns-clause-err g c = on_err_weaker c.close.result
    (λ stayed w fits.
    round_stands c.args.plan.now w c.self.inside.cores.items c.self.inside.cores.items c.self.inside.aggregators.items c.close.new.aggregators.items c.self.inside.wire c.close.new.wire c.self.inside.requests.items c.self.inside.requests.items c.self.inside.published c.self.inside.published
    (subst (λ (n : NodesState). Fits c.args.plan.now w n) (sym c.self.view_is) fits) stayed.0 stayed.1)
    (both_errors _ _ c.close.result c.close.ensures.aggregators c.close.ensures.wire)
