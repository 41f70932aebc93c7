use Rattle.std.proofs.Common.{◌≡◌, map, drop}
use Rattle.ksi_verifier.specs.ChainChecks.{same_times}
use Rattle.ksi_verifier.proofs.chains.check_times.Given as goal

abbrev pub invariant-loop-k : goal.invariant-loop-k
invariant-loop-k g l = same_times l.first l.k (map g.T.AnyChain.plain (drop l.k l.chains)) ≡ same_times l.fn.first 0 (map g.T.AnyChain.plain l.fn.chains)
