use Rattle.std.proofs.Common.{ℕ, ◌<◌, ◌≤◌, ◌-◌, List, length, get_or}
use Rattle.ksi_aggtree.specs.declared.second.Second.{Second}
use Rattle.ksi_journal.proofs.finding.place.Given as goal

-- those before the low place are earlier than the second, and those from the high place on are not
pub record Halving (seconds : List Second) (second low high : ℕ) : Type 0 where
  pub order : low ≤ high
  pub within : high ≤ length seconds
  pub before : (j : ℕ) (d : Second) → j < low → (get_or seconds j d).second < second
  pub behind : (j : ℕ) (d : Second) → high ≤ j → j < length seconds → second ≤ (get_or seconds j d).second

abbrev pub invariant-halving : goal.invariant-halving
invariant-halving l = Halving l.seconds l.second l.low l.high

abbrev pub decreases-halving : goal.decreases-halving
decreases-halving l = l.high - l.low
