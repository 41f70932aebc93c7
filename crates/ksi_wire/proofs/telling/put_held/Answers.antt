use Rattle.ksi_wire.proofs.ToldLines.{told_all, told_more}
use Rattle.ksi_wire.proofs.telling.put_held.Goals as goal

pub telling-preserved : goal.telling-preserved
telling-preserved g c = told_more c.args.core.now c.telling.text.items c.put_second.new.text.items _ c.args.from c.telling.behind c.args.count c.telling-test.true c.telling.invariant (c.in_ok-put_second.ensures)

pub returns : goal.returns
returns g c = told_all c.args.core.now c.telling.text.items _ c.args.from c.telling.behind c.args.count c.telling-test.false c.telling.invariant
