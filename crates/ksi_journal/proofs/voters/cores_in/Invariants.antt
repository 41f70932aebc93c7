use Rattle.std.proofs.Common.{◌≡◌}
use Rattle.std.specs.List.{filter}
use Rattle.ksi_synod.specs.Voters.{cores_below}
use Rattle.ksi_journal.specs.Voters.{is_bit}
use Rattle.ksi_journal.proofs.voters.cores_in.Given as goal

-- those of the cores so far whose bit is 1
abbrev pub invariant-loop-core : goal.invariant-loop-core
invariant-loop-core l = l.voters ≡ filter (is_bit l.bits) (cores_below l.core)
