use Rattle.std.proofs.Common.{◌≡◌, ℕ, ◌<◌, ◌≤◌, ◌%◌}
use Rattle.ksi_split.specs.Upward.{halves}
use Rattle.ksi_split.proofs.levels.completed.Given as goal

abbrev pub invariant-loop-at : goal.invariant-loop-at
invariant-loop-at l = record {
  at : l.at ≡ halves l.level l.n;
  odd : (k : ℕ) → k < l.level → halves k l.n % 2 ≡ 1;
  few : l.level ≤ 63;
}

abbrev pub decreases-loop-at : goal.decreases-loop-at
decreases-loop-at l = l.at
