use Rattle.std.proofs.Common.{◌≡◌, ◌-◌, ◌≤◌, map, drop}
use Rattle.ksi_verifier.proofs.Loops.{order_from}
use Rattle.ksi_verifier.proofs.chains.check_order.Given as goal

abbrev pub invariant-loop-place : goal.invariant-loop-place
invariant-loop-place g l = record {
  so_far : order_from (l.place - 1) (map g.T.AnyChain.plain (drop (l.place - 1) l.chains)) ≡ order_from 0 (map g.T.AnyChain.plain l.fn.chains);
  some : 1 ≤ l.place;
}
