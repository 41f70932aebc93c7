use Rattle.ksi_node.proofs.RoundWritten.{asks_written}
use Rattle.ksi_node.proofs.round_node.take_line.Goals as goal

pub take_asked-requires-clause-written : goal.take_asked-requires-clause-written
take_asked-requires-clause-written g c =
    asks_written c.lines_are_written.ensures c.args.plan.now c.args.me c.args.line.now c.in-Ok.asked c.in-Ok.ensures.exact c.in-Ok.ensures.text c.in-Ok.ensures.may c.requires.free

pub returns-in-Err-Fault-clause-counted : goal.returns-in-Err-Fault-clause-counted
returns-in-Err-Fault-clause-counted g c = c.refuse.ensures.calm (g.D.Disk.faults c.args.store.now.log.disk)
