use Rattle.std.proofs.Common.{◌≡◌, map, drop}
use Rattle.ksi_verifier.specs.ChainChecks.{joined_chains}
use Rattle.ksi_verifier.proofs.Loops.{links_from}
use Rattle.ksi_verifier.proofs.chains.check_links.Given as goal

abbrev pub invariant-loop-k : goal.invariant-loop-k
invariant-loop-k g l =
    links_from g.C.Compress.image l.k l.broken (record { imprint = l.below.imprint; level = l.below.level }) (map g.T.AnyChain.plain (drop l.k l.chains))
    ≡ joined_chains g.C.Compress.image (map g.T.AnyChain.plain l.fn.chains)
