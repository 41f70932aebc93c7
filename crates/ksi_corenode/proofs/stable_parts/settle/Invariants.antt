use Rattle.std.proofs.Common.{◌≡◌, ℕ, ◌+◌, ◌<◌, ◌≤◌, length}
use Rattle.std.specs.Prelude.{IsSome}
use Rattle.std.specs.BTreeMap.{btree_map_len}
use Rattle.ksi_corenode.specs.Stored.{part_at}
use Rattle.ksi_corenode.proofs.stable_parts.settle.Given as goal

abbrev pub invariant-settling : goal.invariant-settling
invariant-settling l = record {
  at : (u : ℕ) → part_at l.start l.settled.parts l.unsettled.entries u ≡ part_at l.start l.fn.settled.parts l.fn.unsettled.entries u;
  held : (t : ℕ) → l.start ≤ t → t < l.start + length l.settled.parts → IsSome (part_at l.start l.settled.parts l.unsettled.entries t).vote.held;
  room : btree_map_len l.unsettled ≤ l.settled.room;
}

abbrev pub decreases-settling : goal.decreases-settling
decreases-settling l = btree_map_len l.unsettled
