use Rattle.ksi_node.proofs.core_node.take_line.Goals as goal

pub returns-in-Err-Fault-clause-counted : goal.returns-in-Err-Fault-clause-counted
returns-in-Err-Fault-clause-counted g c = c.refuse.ensures.calm (g.D.Disk.faults c.args.store.now.log.disk)
