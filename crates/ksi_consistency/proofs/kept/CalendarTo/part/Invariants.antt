use Rattle.std.proofs.Common.{◌+◌}
use Rattle.ksi_consistency.proofs.Parts.{Come}
use Rattle.ksi_consistency.proofs.kept.CalendarTo.part.Given as goal

abbrev pub invariant-loop-rest : goal.invariant-loop-rest
invariant-loop-rest g l = Come (l.self.last + 1) (record { first = l.first; count = l.last + 1 }) l.sides l.depth l.at l.rest

abbrev pub decreases-loop-rest : goal.decreases-loop-rest
decreases-loop-rest g l = l.rest
