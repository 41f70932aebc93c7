use Rattle.std.proofs.Common.{◌≡◌, true}
use Rattle.std.specs.Prelude.{nat_lt}
use Rattle.std.specs.List.{list_all}
use Rattle.ksi_synod.specs.Flags.{flagged_below}
use Rattle.ksi_synod.proofs.voters.Voters.are_below.Given as goal

abbrev pub invariant-loop-other : goal.invariant-loop-other
invariant-loop-other l = list_all (λ voter. nat_lt voter l.core) (flagged_below l.self-inside.flags l.other) ≡ true
