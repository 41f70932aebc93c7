use Rattle.std.proofs.Common.{◌≡◌, ◌-◌, ◌<◌, ℕ, get_or, length}
use Rattle.ksi_split.specs.Stored.{zero_part}
use Rattle.ksi_split.proofs.zeros.Zeros.new.Given as goal

abbrev pub invariant-loop-level : goal.invariant-loop-level
invariant-loop-level g l = record {
  whole : (k : ℕ) → k < l.level → get_or l.parts.parts k l.leaf ≡ zero_part g.J.Joins.joined l.leaf k;
  many : length l.parts.parts ≡ l.level;
  last : l.part ≡ zero_part g.J.Joins.joined l.leaf (l.level - 1);
}
