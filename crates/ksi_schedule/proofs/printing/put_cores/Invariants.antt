use Rattle.std.proofs.Common.{◌≡◌, ◌++◌, map}
use Rattle.std.specs.List.{filter}
use Rattle.ksi_synod.specs.Voters.{cores_below, is_voter}
use Rattle.ksi_schedule.specs.Printed.{core_word, spaced}
use Rattle.ksi_schedule.proofs.printing.put_cores.Given as goal

-- those of the cores so far that vote are told
abbrev pub invariant-loop-core : goal.invariant-loop-core
invariant-loop-core l = l.text.items ≡ l.fn.text.items ++ spaced (map core_word (filter (is_voter l.voters) (cores_below l.core)))
