use Rattle.std.proofs.Common.{◌≡◌, None, arith, sym, subst}
use Rattle.ksi_schedule.specs.Events.{History}
use Rattle.ksi_world.specs.Histories.{held_in, world_of}
use Rattle.ksi_world.proofs.Beyond.{after_beyond}
use Rattle.ksi_world.proofs.world.World.held.Goals as goal

pub returns-then-core-cores : goal.returns-then-core-cores
returns-then-core-cores g c =
    let image = g.C.Compress.image in
    let plan = c.self.inside.plan in
    let events = c.self.inside.events.items in
    let is = c.self.invariant in
    subst (λ (h : History). None ≡ held_in (world_of image h) c.args.core c.args.second) c.self.view_is
    (sym (after_beyond image plan is.plan_is (c.one_round.ensures.level image) events is.are c.args.core c.args.second
    (omega (arith, c.if-core-cores.true, c.cores.ensures.cores))))
