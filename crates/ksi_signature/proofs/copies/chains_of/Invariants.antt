use Rattle.std.proofs.Common.{◌≡◌, ◌++◌, map, drop}
use Rattle.ksi_signature.specs.PartsSeen.{chain_seen}
use Rattle.ksi_signature.proofs.copies.chains_of.Given as goal

abbrev pub invariant-loop-chain : goal.invariant-loop-chain
invariant-loop-chain l = l.copies.items ++ map chain_seen (drop l.chain-index l.chains) ≡ map chain_seen l.chains
