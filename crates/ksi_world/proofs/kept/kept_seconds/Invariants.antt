use Rattle.std.proofs.Common.{◌≡◌, ◌≤◌, ◌-◌, ◌++◌, length}
use Rattle.ksi_world.specs.Keeping.{second_among, AreKnown}
use Rattle.ksi_world.proofs.Skipping.{kept_to}
use Rattle.ksi_world.proofs.kept.kept_seconds.Given as goal

abbrev pub invariant-keeping : goal.invariant-keeping
invariant-keeping g l = record {
  within : l.from ≤ l.end;
  many : length l.known.items ≡ length l.cores;
  known : AreKnown l.cores l.from l.end l.known.items;
  left : l.kept.items ++ kept_to (second_among g.C.Compress.image l.cores) l.from l.end ≡ kept_to (second_among g.C.Compress.image l.cores) l.fn.start l.end;
}

abbrev pub decreases-keeping : goal.decreases-keeping
decreases-keeping g l = l.end - l.from
