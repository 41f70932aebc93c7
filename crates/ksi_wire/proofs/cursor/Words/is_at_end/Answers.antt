use Rattle.ksi_wire.proofs.Ends.{at_end}
use Rattle.ksi_wire.proofs.cursor.Words.is_at_end.Goals as goal

pub returns : goal.returns
returns c = at_end c.args.self.now.left c.is_none.result c.is_none.ensures
