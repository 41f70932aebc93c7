use Rattle.ksi_mirror.proofs.JournalOf.{journal_by}
use Rattle.ksi_mirror.proofs.whole_journal.whole.Goals as goal

pub new-requires-4 : goal.new-requires-4
new-requires-4 g c =
    journal_by g.C.Compress.image c.args.mirror.now c.start.result c.new.result.items c.in-Ok.seconds.items c.new-2.result.items c.new-3.result.items c.mirror_is_kept.ensures c.start.ensures.start
    c.new.ensures.items c.new-2.ensures.items c.new-3.ensures.items c.in-Ok.ensures.seconds
