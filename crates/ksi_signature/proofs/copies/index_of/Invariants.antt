use Rattle.std.proofs.Common.{◌≡◌, ◌++◌}
use Rattle.ksi_signature.specs.PartsLeft.{parts_left}
use Rattle.ksi_signature.specs.PartsSeen.{chain_seen}
use Rattle.ksi_signature.proofs.copies.index_of.Given as goal

abbrev pub invariant-loop-part : goal.invariant-loop-part
invariant-loop-part l = l.index.items ++ parts_left l.parts ≡ (chain_seen l.chain).index
