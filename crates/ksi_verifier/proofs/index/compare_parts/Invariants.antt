use Rattle.std.proofs.Common.{◌≡◌, ◌-◌, drop, length}
use Rattle.ksi_verifier.specs.ChainChecks.{same_parts}
use Rattle.ksi_verifier.proofs.index.compare_parts.Given as goal

abbrev pub invariant-parts : goal.invariant-parts
invariant-parts l = same_parts l.k l.place (drop l.place l.lower) (drop l.place l.higher) ≡ same_parts l.fn.k 0 l.fn.lower l.fn.higher

abbrev pub decreases-parts : goal.decreases-parts
decreases-parts l = length l.lower - l.place
