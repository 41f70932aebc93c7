use Rattle.std.proofs.Common.{◌≡◌, map, drop}
use Rattle.ksi_aggtree.specs.Links.{first_bare}
use Rattle.ksi_aggtree.proofs.chains.bare.find_bare.Given as goal

abbrev pub invariant-loop-place : goal.invariant-loop-place
invariant-loop-place g l = first_bare l.place (map g.L.ChainLink.plain (drop l.place l.links)) ≡ first_bare 0 (map g.L.ChainLink.plain l.fn.links)
