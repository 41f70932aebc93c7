use Rattle.std.proofs.Common.{◌≡◌, drop}
use Rattle.std.specs.List.{AllByRecursion}
use Rattle.ksi_mirror.specs.Mirrors.{IsList}
use Rattle.ksi_mirror.specs.Whole.{first_tree}
use Rattle.ksi_mirror.proofs.whole_journal.tree_list.Given as goal

-- what is left gives what all give
abbrev pub invariant-trying : goal.invariant-trying
invariant-trying g l = record {
  so : first_tree g.C.Compress.image l.second l.root (drop l.one-index l.lists) ≡ first_tree g.C.Compress.image l.second l.root l.lists;
  all : AllByRecursion IsList (drop l.one-index l.lists);
}
