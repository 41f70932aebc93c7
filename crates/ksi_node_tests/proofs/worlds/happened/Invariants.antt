use Rattle.std.proofs.Common.{◌≡◌}
use Rattle.ksi_node_tests.proofs.worlds.happened.Given as goal

abbrev pub invariant-events : goal.invariant-events
invariant-events g l = l.world.plan ≡ l.schedule.plan
