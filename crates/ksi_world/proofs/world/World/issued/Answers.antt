use Rattle.std.proofs.Common.{◌≡◌, Some, None, sym, ap, subst, ◌∙◌, arith}
use Rattle.std.specs.Prelude.{slice_get, IfOk}
use Rattle.std.specs.Option.{option_copied}
use Rattle.ksi_aggregator.specs.Rounds.{rounds_of}
use Rattle.ksi_schedule.specs.Events.{History}
use Rattle.ksi_world.specs.Histories.{after, world_of}
use Rattle.ksi_world.specs.Records.{issued_of}
use Rattle.ksi_world.proofs.Asking.{after_asks}
use Rattle.ksi_world.proofs.Numbered.{after_numbered}
use Rattle.ksi_world.proofs.IssuedOf.{issued_result, none_asked}
use Rattle.ksi_world.proofs.world.World.issued.Goals as goal

pub aggregator-requires : goal.aggregator-requires
aggregator-requires g c =
    let image = g.C.Compress.image in
    let plan = c.self.inside.plan in
    let events = c.self.inside.events.items in
    let is = c.self.invariant in
    let at : slice_get (after image plan events).requests c.args.number ≡ Some c.in-Some.asked.now = ap (λ xs. slice_get xs c.args.number) (sym is.fits.requests) ∙ sym c.asked.ensures ∙ ap option_copied c.in-Some.is in
    omega (arith, is.fits.aggregators.many, (after_asks image plan events is.are c.args.number c.in-Some.asked.now at).0)

pub returns-in-Some-clause-exact : goal.returns-in-Some-clause-exact
returns-in-Some-clause-exact g c =
    let image = g.C.Compress.image in
    let plan = c.self.inside.plan in
    let events = c.self.inside.events.items in
    let is = c.self.invariant in
    let asked = c.in-Some.asked.now in
    let at : slice_get (after image plan events).requests c.args.number ≡ Some asked = ap (λ xs. slice_get xs c.args.number) (sym is.fits.requests) ∙ sym c.asked.ensures ∙ ap option_copied c.in-Some.is in
    let keeps = (is.fits.aggregators.each asked.aggregator c.aggregator.result.now c.aggregator.ensures).keeps in
    subst (λ (h : History). IfOk c.issued.result (λ found. found ≡ issued_of image (world_of image h) c.args.number)) c.self.view_is
    (issued_result image (after image plan events) c.args.number (after_numbered image plan events) asked at (rounds_of c.aggregator.result.now) keeps c.issued.result c.issued.ensures.some c.issued.ensures.none)

pub returns-in-None-clause-exact : goal.returns-in-None-clause-exact
returns-in-None-clause-exact g c =
    let image = g.C.Compress.image in
    let plan = c.self.inside.plan in
    let events = c.self.inside.events.items in
    let is = c.self.invariant in
    let none : slice_get (after image plan events).requests c.args.number ≡ None = ap (λ xs. slice_get xs c.args.number) (sym is.fits.requests) ∙ sym c.asked.ensures ∙ ap option_copied c.in-None.is in
    subst (λ (h : History). None ≡ issued_of image (world_of image h) c.args.number) c.self.view_is
    (none_asked image (after image plan events) c.args.number none)
