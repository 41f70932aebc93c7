use Rattle.std.proofs.Common.{◌≡◌, ◌+◌, ◌*◌, ◌≤◌, drop}
use Rattle.ksi_printed.specs.Printed.{weighed}
use Rattle.ksi_printed.proofs.numbers.weighed.Given as goal

abbrev pub invariant-loop-place : goal.invariant-loop-place
invariant-loop-place l = record {
  so_far : l.sum + weighed (drop l.place l.numbers) ≡ weighed l.numbers;
  bounded : l.sum ≤ 1245165 * l.place;
}
