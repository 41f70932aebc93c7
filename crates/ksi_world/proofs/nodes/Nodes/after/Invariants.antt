use Rattle.std.proofs.Common.{take}
use Rattle.ksi_world.specs.Nodes.{IsWorld}
use Rattle.ksi_world.proofs.nodes.Nodes.after.Given as goal

abbrev pub invariant-events : goal.invariant-events
invariant-events g l = IsWorld g.C.Compress.image l.plan (take l.event-index l.events) l.nodes
