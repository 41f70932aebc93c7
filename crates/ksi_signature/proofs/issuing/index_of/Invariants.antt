use Rattle.std.proofs.Common.{◌≡◌, ◌-◌, drop, length}
use Rattle.ksi_signature.specs.Issued.{index_of}
use Rattle.ksi_signature.proofs.issuing.index_of.Given as goal

abbrev pub invariant-loop-place : goal.invariant-loop-place
invariant-loop-place l = l.index.items ≡ index_of (drop (length l.chains - l.place) l.chains)
