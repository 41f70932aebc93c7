use Rattle.ksi_node.proofs.round_node.take_what_came.Goals as goal

pub returns-then-is_long-clause-counted : goal.returns-then-is_long-clause-counted
returns-then-is_long-clause-counted g c = c.refuse.ensures.calm (g.D.Disk.faults c.args.store.now.log.disk)
