use Rattle.std.proofs.Common.{sym, subst, arith}
use Rattle.std.proofs.lemmas.Result.{IfOk-weaker, on_err_weaker}
use Rattle.ksi_corenode.specs.Events.{core_row}
use Rattle.ksi_world.specs.Nodes.{NodesState, Fits, core_turn}
use Rattle.ksi_world.proofs.Fitting.{core_fits, core_stands, both_errors, core_turn_is, plans_are}
use Rattle.ksi_world.proofs.nodes.Nodes.take.Goals as goal

pub take-requires-clause-there : goal.take-requires-clause-there
take-requires-clause-there g c =
    let ready = c.requires.ready.1 in
    let fits = subst (λ (n : NodesState). Fits c.requires.ready.0 ready.world n) (sym c.self.view_is) ready.fits in
    omega (arith, fits.cores.many, ready.there)

pub take-requires-clause-plan : goal.take-requires-clause-plan
take-requires-clause-plan g c =
    let ready = c.requires.ready.1 in
    let fits = subst (λ (n : NodesState). Fits c.requires.ready.0 ready.world n) (sym c.self.view_is) ready.fits in
    plans_are c.requires.ready.0 ready.world c.self.inside.cores.items ready.plan_is fits.cores

pub take-requires-clause-may : goal.take-requires-clause-may
take-requires-clause-may g c =
    let ready = c.requires.ready.1 in
    let fits = subst (λ (n : NodesState). Fits c.requires.ready.0 ready.world n) (sym c.self.view_is) ready.fits in
    λ j core at. ready.may core (fits.cores.each j core at).start

pub returns-clause-ok : goal.returns-clause-ok
returns-clause-ok g c = IfOk-weaker c.take.result _ _
    (λ outcome step plan w fits.
    let fits' = subst (λ (n : NodesState). Fits plan w n) (sym c.self.view_is) fits in
    let is = fits'.cores.each c.args.core step.old step.at in
    core_fits plan w c.self.inside.cores.items c.take.new.cores.items c.self.inside.aggregators.items c.self.inside.aggregators.items c.self.inside.wire c.take.new.wire c.self.inside.requests.items c.self.inside.requests.items c.self.inside.published c.self.inside.published
    fits' (λ core. core_row g.C.Compress.image core c.args.event) c.args.core c.args.second outcome (core_turn g.C.Compress.image plan w c.args.core c.args.event) step (core_turn_is plan w c.args.core step.old is g.C.Compress.image c.args.event))
    c.take.ensures.ok

pub returns-clause-err : goal.returns-clause-err
returns-clause-err g c = on_err_weaker c.take.result
    (λ stayed plan w fits.
    core_stands plan w c.self.inside.cores.items c.take.new.cores.items c.self.inside.aggregators.items c.self.inside.aggregators.items c.self.inside.wire c.take.new.wire c.self.inside.requests.items c.self.inside.requests.items c.self.inside.published c.self.inside.published
    (subst (λ (n : NodesState). Fits plan w n) (sym c.self.view_is) fits) stayed.0 stayed.1)
    (both_errors _ _ c.take.result c.take.ensures.cores c.take.ensures.wire)
