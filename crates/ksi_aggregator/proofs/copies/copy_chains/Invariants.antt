use Rattle.std.proofs.Common.{◌≡◌, ◌++◌, take}
use Rattle.ksi_aggregator.proofs.copies.copy_chains.Given as goal

abbrev pub invariant-loop-chain : goal.invariant-loop-chain
invariant-loop-chain l = l.copies.items ≡ l.fn.copies.items ++ take l.chain-index l.chains
