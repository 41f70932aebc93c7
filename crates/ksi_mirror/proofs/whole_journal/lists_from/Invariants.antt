use Rattle.std.proofs.Common.{length}
use Rattle.ksi_mirror.proofs.JournalOf.{Skipping}
use Rattle.ksi_mirror.proofs.whole_journal.lists_from.Given as goal

abbrev pub invariant-skipping : goal.invariant-skipping
invariant-skipping l = Skipping l.second l.rest l.lists

abbrev pub decreases-skipping : goal.decreases-skipping
decreases-skipping l = length l.rest
