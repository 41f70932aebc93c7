use Rattle.std.proofs.Common.{◌≡◌, ◌+◌, ◌≤◌, drop}
use Rattle.ksi_split.specs.Parts.{second_at, second_in, part_at}
use Rattle.ksi_split.proofs.Ways.{part_of}
use Rattle.ksi_split.proofs.walk.second_of.Given as goal

abbrev pub invariant-loop-place : goal.invariant-loop-place
invariant-loop-place l = record {
  left : second_in (part_at l.place (part_of l.second (l.rest + 1)) (drop l.place l.sides)) ≡ second_at l.p l.sides;
  small : l.second + l.rest ≤ l.p;
}
