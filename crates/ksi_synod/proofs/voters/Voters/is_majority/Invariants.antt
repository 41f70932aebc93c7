use Rattle.std.proofs.Common.{◌≡◌, ◌≤◌, length}
use Rattle.std.specs.List.{count_by}
use Rattle.ksi_synod.specs.Voters.{is_flagged}
use Rattle.ksi_synod.specs.Flags.{flagged_below}
use Rattle.ksi_synod.proofs.voters.Voters.is_majority.Given as goal

abbrev pub invariant-loop-core : goal.invariant-loop-core
invariant-loop-core l = record {
  voters : l.voters ≡ length (flagged_below l.self-inside.flags l.core);
  among : l.among ≡ count_by (is_flagged l.flags) (flagged_below l.self-inside.flags l.core);
  few : l.voters ≤ l.core;
  fewer : l.among ≤ l.voters;
}
