use Rattle.std.proofs.Common.{◌≡◌, sym, ap, subst, ◌∙◌, arith}
use Rattle.std.specs.Prelude.{slice_get}
use Rattle.std.proofs.lemmas.Result.{IfOk-weaker, on_err_weaker}
use Rattle.ksi_aggregator.specs.Rows.{round_response}
use Rattle.ksi_world.specs.declared.message.Content.{Content}
use Rattle.ksi_world.specs.Histories.{Happening}
use Rattle.ksi_world.specs.Nodes.{NodesState, Fits, RoundStep, CanTake, response_row}
use Rattle.ksi_world.proofs.Fitting.{nodes_of, round_fits, round_stands, both_errors}
use Rattle.ksi_world.proofs.Taking.{can_take}
use Rattle.ksi_world.proofs.Delivering.{response_sent, response_taken}
use Rattle.ksi_world.proofs.nodes.Nodes.response.Goals as goal

pub response-requires-clause-there : goal.response-requires-clause-there
response-requires-clause-there g c =
    let above = c.requires.1 in
    let ready = c.requires.4 in
    let fits = subst (λ (n : NodesState). Fits c.args.plan.now ready.world n) (sym c.self.view_is) ready.fits in
    omega (arith, fits.aggregators.many, (response_sent c.args.plan.now c.args.sender c.args.to above ready.sent).0)

pub response-requires-clause-planned : goal.response-requires-clause-planned
response-requires-clause-planned g c = (response_sent c.args.plan.now c.args.sender c.args.to c.requires.1 c.requires.4.sent).0

pub response-requires-clause-response : goal.response-requires-clause-response
response-requires-clause-response g c =
    let m = c.requires.0 in
    let above = c.requires.1 in
    let ready = c.requires.4 in
    let fits = subst (λ (n : NodesState). Fits c.args.plan.now ready.world n) (sym c.self.view_is) ready.fits in (
      m,
      ap (λ (n : NodesState). slice_get n.wire c.args.number) c.self.view_is ∙ c.requires.2,
      subst (λ (content : Content). CanTake g.C.Compress.image c.args.plan.now c.args.to c.args.second c.self.inside.aggregators.items content) (sym c.requires.3)
          (can_take c.args.plan.now ready.plan_is g.C.Compress.image ready.world c.self.inside.aggregators.items c.args.to c.args.second above ready.sound fits.aggregators (response_sent c.args.plan.now c.args.sender c.args.to above ready.sent).1),
    )

pub returns-clause-ok : goal.returns-clause-ok
returns-clause-ok g c = IfOk-weaker c.response.result _ _
    (λ outcome steps m above at is w fits.
    let step = subst (λ (content : Content). RoundStep (response_row g.C.Compress.image content) c.args.plan.now c.args.to c.args.second c.self.inside.aggregators.items c.response.new.aggregators.items c.self.inside.wire c.response.new.wire outcome) is (steps m (ap (λ (n : NodesState). slice_get n.wire c.args.number) c.self.view_is ∙ at)) in
    subst (λ (h : Happening). Fits c.args.plan.now h.world (nodes_of c.self.inside.cores.items c.response.new.aggregators.items c.response.new.wire c.self.inside.requests.items c.self.inside.published) × (outcome ≡ h.outcome)) (sym (response_taken g.C.Compress.image c.args.plan.now w c.args.sender c.args.to c.args.second above))
    (round_fits c.args.plan.now w c.self.inside.cores.items c.self.inside.cores.items c.self.inside.aggregators.items c.response.new.aggregators.items c.self.inside.wire c.response.new.wire c.self.inside.requests.items c.self.inside.requests.items c.self.inside.published c.self.inside.published
    (subst (λ (n : NodesState). Fits c.args.plan.now w n) (sym c.self.view_is) fits) (round_response g.C.Compress.image above) c.args.to c.args.second outcome step))
    c.response.ensures.ok

pub returns-clause-err : goal.returns-clause-err
returns-clause-err g c = on_err_weaker c.response.result
    (λ stayed w fits.
    round_stands c.args.plan.now w c.self.inside.cores.items c.self.inside.cores.items c.self.inside.aggregators.items c.response.new.aggregators.items c.self.inside.wire c.response.new.wire c.self.inside.requests.items c.self.inside.requests.items c.self.inside.published c.self.inside.published
    (subst (λ (n : NodesState). Fits c.args.plan.now w n) (sym c.self.view_is) fits) stayed.0 stayed.1)
    (both_errors _ _ c.response.result c.response.ensures.aggregators c.response.ensures.wire)
