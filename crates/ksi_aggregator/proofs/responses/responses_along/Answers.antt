use Rattle.ksi_aggregator.specs.Responses.{responses_from}
use Rattle.ksi_aggtree.specs.Entries.{items_of}
use Rattle.ksi_aggregator.proofs.Items.{lower_read, next_response}
use Rattle.ksi_aggregator.proofs.responses.responses_along.Goals as goal

pub push_told-requires-clause-room : goal.push_told-requires-clause-room
push_told-requires-clause-room g c = λ lower. c.requires.room (lower_read c.args.entries.now c.loop-k.k c.entry-entry.result c.entry-entry.ensures lower)

pub loop-k-preserved : goal.loop-k-preserved
loop-k-preserved g c =
    next_response g.C.Compress.image c.args.above.now c.args.entries.now c.loop-k.k c.entry-entry.result c.loop-k.sends.items c.push_told.new.sends.items
    (responses_from g.C.Compress.image 0 c.args.above.now (items_of c.args.entries.now) c.args.entries.now) c.entry-entry.ensures c.in_ok-push_told.ensures c.loop-k.invariant
