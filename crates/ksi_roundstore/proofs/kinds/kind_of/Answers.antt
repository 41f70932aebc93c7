use Rattle.ksi_roundstore.proofs.Telling.{kind_told}
use Rattle.ksi_roundstore.proofs.kinds.kind_of.Goals as goal

pub returns : goal.returns
returns c = kind_told c.args.plan.now c.args.me c.args.content.now c.last_line-tail.result.now c.without_feed.result.now c.kind_of_line.result c.last_line-tail.ensures c.without_feed.ensures c.kind_of_line.ensures
