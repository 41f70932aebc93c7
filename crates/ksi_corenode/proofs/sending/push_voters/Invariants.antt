use Rattle.std.proofs.Common.{◌≡◌, ◌≤◌, ◌+◌, ◌++◌, vec_len}
use Rattle.std.specs.Prelude.{vec_capacity}
use Rattle.std.specs.List.{filter}
use Rattle.ksi_synod.specs.Voters.{cores_below, is_voter}
use Rattle.ksi_corenode.specs.Turns.{to_each}
use Rattle.ksi_corenode.proofs.sending.push_voters.Given as goal

abbrev pub invariant-loop-core : goal.invariant-loop-core
invariant-loop-core l = record {
  sent : l.sends.items ≡ l.fn.sends.items ++ to_each (filter (is_voter l.voters) (cores_below l.core)) l.message;
  room : vec_capacity l.fn.sends ≤ vec_capacity l.sends;
  len : vec_len l.sends ≤ vec_len l.fn.sends + l.core;
}
