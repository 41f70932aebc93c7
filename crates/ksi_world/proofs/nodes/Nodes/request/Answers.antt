use Rattle.std.proofs.Common.{length, sym, ap, subst, ◌∙◌, arith}
use Rattle.ksi_world.specs.Histories.{happens, asked_with}
use Rattle.ksi_world.specs.declared.outcome.Asked.{Asked}
use Rattle.ksi_world.specs.Nodes.{NodesState, Fits}
use Rattle.ksi_world.proofs.Turning.{at_error}
use Rattle.ksi_world.proofs.Fitting.{request_fits}
use Rattle.ksi_world.proofs.Taking.{new_number}
use Rattle.ksi_world.proofs.nodes.Nodes.request.Goals as goal

pub request-requires-clause-new : goal.request-requires-clause-new
request-requires-clause-new g c =
    let fits = subst (λ (n : NodesState). Fits c.args.plan.now c.requires.world n) (sym c.self.view_is) c.requires.fits in
    new_number c.args.plan.now c.requires.world c.self.inside.aggregators.items c.len-number.result c.requires.sound fits.aggregators (omega (arith, c.len-number.ensures, c.self.inside.requests.ok, ap length fits.requests))

pub returns-in_err-outcome-clause-err : goal.returns-in_err-outcome-clause-err
returns-in_err-outcome-clause-err g c = at_error c.from_residual-in_err-outcome.result (λ w fits.
    let fits' = subst (λ (n : NodesState). Fits c.args.plan.now w n) (sym c.self.view_is) fits in
    record { cores = fits'.cores; aggregators = c.in_err-outcome.ensures.aggregators c.args.plan.now w.rounds fits'.aggregators; wire = c.in_err-outcome.ensures.wire ∙ fits'.wire; requests = c.reserve.ensures.items ∙ fits'.requests; published = fits'.published })

pub returns-clause-ok : goal.returns-clause-ok
unfolding happens
returns-clause-ok g c = λ w fits.
    let fits' = subst (λ (n : NodesState). Fits c.args.plan.now w n) (sym c.self.view_is) fits in
    let new : Asked = record { aggregator = c.args.aggregator; second = c.args.second; imprint = c.args.imprint } in
    request_fits c.args.plan.now w c.self.inside.cores.items c.self.inside.cores.items c.self.inside.aggregators.items c.request.new.aggregators.items c.self.inside.wire c.request.new.wire c.self.inside.requests.items c.accept.new.requests.items c.self.inside.published c.self.inside.published
    fits' c.len-number.result c.args.aggregator c.args.second c.args.imprint c.args.name c.in_ok-outcome.outcome (omega (arith, c.len-number.ensures, c.self.inside.requests.ok, ap length fits'.requests)) c.in_ok-outcome.ensures.ok
    (c.accept.ensures ∙ ap (λ rs. asked_with rs new c.in_ok-outcome.outcome.answer) c.reserve.ensures.items)
