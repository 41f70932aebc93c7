use Rattle.std.proofs.Common.{◌≡◌, ◌<◌, ◌^◌}
use Rattle.std.specs.List.{filter}
use Rattle.ksi_synod.specs.Voters.{cores_below, is_voter}
use Rattle.ksi_journal.specs.Voters.{bits_of}
use Rattle.ksi_journal.proofs.voters.bits_of.Given as goal

-- the bits of those of the cores so far that vote
abbrev pub invariant-loop-core : goal.invariant-loop-core
invariant-loop-core l = record {
  bits : l.bits ≡ bits_of (filter (is_voter l.voters) (cores_below l.core));
  small : l.bits < 2 ^ l.core;
}
