use Rattle.std.proofs.Common.{sym, subst, ◌∙◌, arith}
use Rattle.ksi_world.specs.Histories.{happens}
use Rattle.ksi_world.specs.Nodes.{NodesState, Fits}
use Rattle.ksi_world.proofs.Turning.{at_error}
use Rattle.ksi_world.proofs.Fitting.{publish_fits, publish_stands, plans_are, asked_for}
use Rattle.ksi_world.proofs.nodes.Nodes.publish.Goals as goal

pub take-requires-clause-there : goal.take-requires-clause-there
take-requires-clause-there g c =
    let ready = c.requires.1 in
    let fits = subst (λ (n : NodesState). Fits c.requires.0 ready.world n) (sym c.self.view_is) ready.fits in
    omega (arith, fits.cores.many, ready.event_is.0)

pub take-requires-clause-plan : goal.take-requires-clause-plan
take-requires-clause-plan g c =
    let ready = c.requires.1 in
    let fits = subst (λ (n : NodesState). Fits c.requires.0 ready.world n) (sym c.self.view_is) ready.fits in
    plans_are c.requires.0 ready.world c.self.inside.cores.items ready.plan_is fits.cores

pub take-requires-clause-may : goal.take-requires-clause-may
take-requires-clause-may g c =
    let ready = c.requires.1 in
    let fits = subst (λ (n : NodesState). Fits c.requires.0 ready.world n) (sym c.self.view_is) ready.fits in
    λ j core at. asked_for c.requires.0 c.args.second ready.plan_is ready.event_is.1 core (fits.cores.each j core at).start

pub returns-in_err-outcome-clause-err : goal.returns-in_err-outcome-clause-err
returns-in_err-outcome-clause-err g c = at_error c.from_residual.result (λ plan w fits.
    let fits' = subst (λ (n : NodesState). Fits plan w n) (sym c.self.view_is) fits in
    record { cores = c.in_err-outcome.ensures.cores plan w.seconds fits'.cores; aggregators = fits'.aggregators; wire = c.in_err-outcome.ensures.wire ∙ fits'.wire; requests = fits'.requests; published = fits'.published })

pub returns-in_err-put_answer-clause-err : goal.returns-in_err-put_answer-clause-err
returns-in_err-put_answer-clause-err g c = at_error c.from_residual-in_err-put_answer.result (λ plan w fits.
    let stands = (publish_stands plan w c.self.inside.cores.items c.take.new.cores.items c.self.inside.aggregators.items c.self.inside.aggregators.items c.self.inside.wire c.take.new.wire c.self.inside.requests.items c.self.inside.requests.items c.self.inside.published c.self.inside.published
    (subst (λ (n : NodesState). Fits plan w n) (sym c.self.view_is) fits) g.C.Compress.image c.args.core c.args.second c.in_ok-outcome.outcome c.in_ok-outcome.ensures.ok).0 in
    record { cores = stands.cores; aggregators = stands.aggregators; wire = stands.wire; requests = stands.requests; published = c.in_err-put_answer.ensures.unchanged ∙ stands.published })

pub returns-clause-ok : goal.returns-clause-ok
unfolding happens
returns-clause-ok g c = λ plan w fits.
    publish_fits plan w c.self.inside.cores.items c.take.new.cores.items c.self.inside.aggregators.items c.self.inside.aggregators.items c.self.inside.wire c.take.new.wire c.self.inside.requests.items c.self.inside.requests.items c.self.inside.published c.put_answer.new.self
    (subst (λ (n : NodesState). Fits plan w n) (sym c.self.view_is) fits) g.C.Compress.image c.args.core c.args.second c.in_ok-outcome.outcome c.in_ok-outcome.ensures.ok
    c.in_ok-put_answer.ensures.put
