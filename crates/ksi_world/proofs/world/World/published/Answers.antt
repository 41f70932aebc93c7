use Rattle.std.proofs.Common.{◌^◌, subst}
use Rattle.ksi_schedule.specs.Events.{History}
use Rattle.ksi_world.specs.Histories.{world_of}
use Rattle.ksi_world.specs.Validity.{AreTimes}
use Rattle.ksi_world.proofs.Publishing.{after_times}
use Rattle.ksi_world.proofs.world.World.published.Goals as goal

pub returns-clause-rising : goal.returns-clause-rising
returns-clause-rising g c =
    let image = g.C.Compress.image in
    let is = c.self.invariant in
    subst (λ (h : History). AreTimes h.plan.start (2 ^ 63) (world_of image h).published) c.self.view_is (after_times image c.self.inside.plan is.plan_is c.self.inside.events.items is.are)
