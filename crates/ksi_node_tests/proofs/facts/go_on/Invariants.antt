use Rattle.std.proofs.Common.{◌≡◌}
use Rattle.ksi_node_tests.proofs.facts.go_on.Given as goal

abbrev pub invariant-going : goal.invariant-going
invariant-going l = (l.one.start ≡ 1700000000) × (l.other.start ≡ 1700000000)
