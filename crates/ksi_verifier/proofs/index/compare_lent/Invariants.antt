use Rattle.std.proofs.Common.{◌≡◌, ◌≤◌, ◌+◌, ◌-◌, take, length}
use Rattle.ksi_signature.specs.PartsLeft.{parts_left}
use Rattle.ksi_verifier.specs.ChainChecks.{same_parts}
use Rattle.ksi_verifier.proofs.index.compare_lent.Given as goal

abbrev pub invariant-parts : goal.invariant-parts
invariant-parts l = record {
  so_far : same_parts l.k l.place (take (l.count - 1 - l.place) (parts_left l.lower)) (parts_left l.higher) ≡ same_parts l.fn.k 0 (take (l.fn.count - 1) (parts_left l.fn.lower)) (parts_left l.fn.higher);
  left : length (parts_left l.lower) + l.place ≡ l.fn.count;
  some : l.place + 1 ≤ l.fn.count;
}

abbrev pub decreases-parts : goal.decreases-parts
decreases-parts l = l.count - l.place
