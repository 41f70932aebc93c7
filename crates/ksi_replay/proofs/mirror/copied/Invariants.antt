use Rattle.std.proofs.Common.{◌≡◌, ◌≤◌, ◌-◌, ◌++◌}
use Rattle.ksi_corenode.specs.CoreState.{held_by}
use Rattle.ksi_replay.specs.Mirrors.{root_with, list_at, sealed_by}
use Rattle.ksi_replay.proofs.Listing.{those_to}
use Rattle.ksi_replay.proofs.mirror.copied.Given as goal

abbrev pub invariant-copying : goal.invariant-copying
invariant-copying g l = record {
  within : l.from ≤ l.end;
  roots : l.roots.items ++ those_to (root_with (held_by l.node)) l.from l.end ≡ those_to (root_with (held_by l.node)) l.fn.start l.end;
  lists : l.lists.items ++ those_to (list_at (sealed_by l.node) l.fn.core) l.from l.end ≡ those_to (list_at (sealed_by l.node) l.fn.core) l.fn.start l.end;
}

abbrev pub decreases-copying : goal.decreases-copying
decreases-copying g l = l.end - l.from
