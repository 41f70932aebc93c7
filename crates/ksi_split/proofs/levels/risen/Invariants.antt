use Rattle.std.proofs.Common.{◌≡◌, ◌≤◌}
use Rattle.ksi_split.specs.Upward.{halves}
use Rattle.ksi_split.proofs.levels.risen.Given as goal

abbrev pub invariant-loop-low : goal.invariant-loop-low
invariant-loop-low l = record {
  low : l.low ≡ halves l.level l.n;
  high : l.high ≡ halves l.level l.end;
  few : l.level ≤ 64;
}

abbrev pub decreases-loop-low : goal.decreases-loop-low
decreases-loop-low l = l.high
