use Rattle.std.proofs.Common.{◌≡◌, ◌++◌, ◌∷◌, [], take}
use Rattle.ksi_aggtree.proofs.rebuilt.rebuilt.Given as goal

abbrev pub invariant-adding : goal.invariant-adding
invariant-adding g l = l.round ≡ take l.k (l.items ++ l.last ∷ [])
