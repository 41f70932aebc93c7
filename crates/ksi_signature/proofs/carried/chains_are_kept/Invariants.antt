use Rattle.std.proofs.Common.{drop}
use Rattle.std.specs.List.{AllByRecursion}
use Rattle.ksi_signature.specs.Carried.{IsAboveChain}
use Rattle.ksi_signature.proofs.carried.chains_are_kept.Given as goal

abbrev pub invariant-loop-chain : goal.invariant-loop-chain
invariant-loop-chain l = AllByRecursion IsAboveChain (drop l.chain-index l.chains) → AllByRecursion IsAboveChain l.chains
