use Rattle.std.proofs.Common.{◌≡◌, ◌+◌, ◌≤◌, ◌++◌, drop}
use Rattle.ksi_aggtree.specs.Paths.{name_links, links_from}
use Rattle.ksi_aggtree.proofs.item_path.ItemPath.beside.Given as goal

abbrev pub invariant-loop-other : goal.invariant-loop-other
invariant-loop-other l = record {
  so_far : l.vec.items ++ links_from l.level (drop l.other-index l.others) ≡ name_links l.name ++ links_from l.fn.start l.others;
  low : l.level ≤ 255 + l.other-index;
}
