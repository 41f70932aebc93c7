use Rattle.std.proofs.Common.{◌≡◌, map, drop}
use Rattle.ksi_verifier.specs.ChainChecks.{index_shapes}
use Rattle.ksi_verifier.proofs.chains.check_shapes.Given as goal

abbrev pub invariant-loop-k : goal.invariant-loop-k
invariant-loop-k g l = index_shapes l.k (map g.T.AnyChain.plain (drop l.k l.chains)) ≡ index_shapes 0 (map g.T.AnyChain.plain l.fn.chains)
