use Rattle.std.proofs.Common.{◌≡◌, take, length}
use Rattle.ksi_calendar.specs.Sides.{sides_from_top}
use Rattle.ksi_calendar.proofs.seconds.uppermost.Given as goal

abbrev pub invariant-loop-place : goal.invariant-loop-place
invariant-loop-place l = record {
  room : length l.sides ≡ 65;
  so_far : take l.place l.sides ≡ take l.place (sides_from_top l.links);
}
