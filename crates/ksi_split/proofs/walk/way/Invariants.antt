use Rattle.std.proofs.Common.{◌-◌, ◌^◌, ◌<◌, ◌≤◌, ◌++◌, length, ◌≡◌}
use Rattle.ksi_split.specs.Ways.{way_of}
use Rattle.ksi_split.proofs.walk.way.Given as goal

abbrev pub invariant-loop-size : goal.invariant-loop-size
invariant-loop-size l = record {
  so_far : l.sides ++ way_of l.at l.size ≡ way_of l.t l.n;
  within : l.at < l.size;
  few : l.size ≤ 2 ^ (63 - length l.sides);
  count : length l.sides ≤ 63;
}

abbrev pub decreases-loop-size : goal.decreases-loop-size
decreases-loop-size l = l.size
