use Rattle.std.proofs.Common.{◌≡◌, ◌≤◌, ◌<◌, ℕ, length, Some}
use Rattle.std.specs.Prelude.{slice_get}
use Rattle.ksi_corenode.specs.CoreState.{CoreState}
use Rattle.ksi_world.specs.Keeping.{IsIdle, AreKnown}
use Rattle.ksi_world.proofs.kept.next_below.Given as goal

abbrev pub invariant-asking : goal.invariant-asking
invariant-asking g l = record {
  many : length l.known.items ≡ length l.cores;
  known : AreKnown l.cores l.from l.end l.known.items;
  behind : l.from ≤ l.next;
  within : l.next ≤ l.end;
  idle : (j : ℕ) (core : CoreState) → j < l.place → slice_get l.cores j ≡ Some core → IsIdle core l.from l.next;
}
