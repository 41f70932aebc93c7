use Rattle.std.proofs.Common.{◌≡◌, ◌≤◌, length}
use Rattle.ksi_tlv.specs.Numerals.{without_zeros}
use Rattle.ksi_signature.proofs.lengths.significant_size.Given as goal

abbrev pub invariant-loop-rest : goal.invariant-loop-rest
invariant-loop-rest l = (without_zeros l.rest ≡ without_zeros l.bytes) × (length l.rest ≤ length l.bytes)

abbrev pub decreases-loop-rest : goal.decreases-loop-rest
decreases-loop-rest l = length l.rest
