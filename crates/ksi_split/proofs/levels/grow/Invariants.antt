use Rattle.std.proofs.Common.{◌≡◌, ℕ, ◌+◌, ◌<◌, ◌≤◌, vec_len}
use Rattle.ksi_split.specs.Upward.{halves}
use Rattle.ksi_split.specs.Stored.{row_at, room_at}
use Rattle.ksi_split.proofs.levels.grow.Given as goal

abbrev pub invariant-loop-level : goal.invariant-loop-level
invariant-loop-level g l = record {
  rows : l.levels ≤ vec_len l.rows;
  kept : (k : ℕ) → row_at l.rows.items k ≡ row_at l.fn.rows.items k;
  room : (k : ℕ) → k < l.level → halves k l.end ≤ halves k l.n + room_at l.rows.items k;
}
