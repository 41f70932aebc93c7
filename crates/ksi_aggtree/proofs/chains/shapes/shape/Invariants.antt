use Rattle.std.proofs.Common.{◌≡◌, ◌+◌, map, drop}
use Rattle.ksi_aggtree.specs.Shapes.{left_powers}
use Rattle.ksi_aggtree.proofs.chains.shapes.shape.Given as goal

abbrev pub invariant-loop-place : goal.invariant-loop-place
invariant-loop-place g l =
    l.bits + left_powers l.place (drop l.place (map (λ link. (g.L.ChainLink.plain link).side) l.links)) ≡ left_powers 0 (map (λ link. (g.L.ChainLink.plain link).side) l.links)
