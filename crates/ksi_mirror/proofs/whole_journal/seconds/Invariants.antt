use Rattle.std.proofs.Common.{drop}
use Rattle.ksi_mirror.proofs.JournalOf.{Journaling}
use Rattle.ksi_mirror.proofs.whole_journal.seconds.Given as goal

abbrev pub invariant-journaling : goal.invariant-journaling
invariant-journaling g l = Journaling g.C.Compress.image l.mirror l.seconds.items (drop l.root-index l.roots) l.lists
