use Rattle.std.proofs.Common.{◌≡◌, ◌++◌, drop}
use Rattle.ksi_aggtree.specs.Entries.{items_of}
use Rattle.ksi_world.proofs.kept.items_of.Given as goal

abbrev pub invariant-taking : goal.invariant-taking
invariant-taking l = l.items.items ++ items_of (drop l.entry-index l.entries) ≡ items_of l.entries
