use Rattle.std.proofs.Common.{◌≡◌, map, drop}
use Rattle.ksi_aggtree.specs.Climbing.{climbed}
use Rattle.ksi_aggtree.proofs.chains.climbing.climb.Given as goal

abbrev pub invariant-loop-place : goal.invariant-loop-place
invariant-loop-place g l =
    climbed g.C.Compress.image l.place (record { imprint = l.node.imprint; level = l.node.level }) (drop l.place (map g.L.ChainLink.plain l.links))
    ≡ climbed g.C.Compress.image 0 (record { imprint = l.fn.start; level = l.fn.level }) (map g.L.ChainLink.plain l.links)
