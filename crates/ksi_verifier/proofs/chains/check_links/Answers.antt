use Rattle.std.proofs.Common.{◌+◌, map, drop, ap}
use Rattle.ksi_verifier.specs.Chains.{at_level_zero}
use Rattle.ksi_verifier.proofs.Loops.{from_here, links_start, links_go}
use Rattle.ksi_verifier.proofs.chains.check_links.Goals as goal

pub loop-k-init : goal.loop-k-init
loop-k-init g c =
    let xs = c.args.chains.now in
    links_start g.C.Compress.image _ (g.T.AnyChain.plain c.index-chains-0.result) (map g.T.AnyChain.plain xs) (map g.T.AnyChain.plain (drop 1 xs))
    (from_here g.T.AnyChain.plain xs 0 c.index-chains-0.result c.requires c.index-chains-0.is) (ap at_level_zero c.input.ensures)

pub loop-k-preserved : goal.loop-k-preserved
loop-k-preserved g c =
    let xs = c.args.chains.now in
    links_go g.C.Compress.image c.loop-k.k c.loop-k.broken c.first_break-broken.result c.loop-k.below c.in-Ok.top c.input-in-loop-k.result (g.T.AnyChain.plain c.index-chains-k.result)
    (map g.T.AnyChain.plain (drop c.loop-k.k xs)) (map g.T.AnyChain.plain (drop (c.loop-k.k + 1) xs)) _ c.climb_one.result
    (from_here g.T.AnyChain.plain xs c.loop-k.k c.index-chains-k.result c.loop-k-test.true c.index-chains-k.is) c.input-in-loop-k.ensures c.first_break-broken.ensures c.climb_one.ensures c.in-Ok.is c.loop-k.invariant
