use Rattle.std.proofs.Common.{◌≡◌, map, drop}
use Rattle.ksi_verifier.specs.ChainChecks.{no_bare_links}
use Rattle.ksi_verifier.proofs.chains.check_metadata.Given as goal

abbrev pub invariant-loop-k : goal.invariant-loop-k
invariant-loop-k g l = no_bare_links l.k (map g.T.AnyChain.plain (drop l.k l.chains)) ≡ no_bare_links 0 (map g.T.AnyChain.plain l.fn.chains)
