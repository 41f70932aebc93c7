use Rattle.std.proofs.Common.{◌≡◌, take}
use Rattle.ksi_node_file.specs.Followed.{IsFollowing}
use Rattle.ksi_node_file.proofs.making.followed.Given as goal

-- so many events happened in the world, which the store follows
abbrev pub invariant-events : goal.invariant-events
invariant-events g l = record {
  so_far : l.world ≡ record { plan = l.schedule.plan; events = take l.event-index l.schedule.events };
  follows : IsFollowing g.C.Compress.image l.world.plan l.world.events l.core l.store;
}
