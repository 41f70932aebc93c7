use Rattle.ksi_schedule.proofs.Texts.{parent_told}
use Rattle.ksi_schedule.proofs.printing.put_parents.Goals as goal

pub loop-k-preserved : goal.loop-k-preserved
loop-k-preserved c =
    parent_told c.loop-k.text.items c.put_parent.new.text.items _ c.loop-k.k c.args.parents.now c.index-parents-k.result c.loop-k-test.true c.loop-k.invariant
    (rw c.index-parents-k.is at c.in_ok-put_parent.ensures)
