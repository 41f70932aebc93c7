use Rattle.std.proofs.Common.{◌≡◌, take}
use Rattle.ksi_aggtree.specs.Entries.{items_of}
use Rattle.ksi_corenode.proofs.responding.round_of.Given as goal

abbrev pub invariant-adding : goal.invariant-adding
invariant-adding g l = l.round ≡ take l.k (items_of l.entries)
