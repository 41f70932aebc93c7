use Rattle.std.proofs.Common.{rules}
use Rattle.ksi_ports.proofs.mem_sink.MemSinkSink.put.Goals as goal

pub returns-in-Some-clause-after : goal.returns-in-Some-clause-after
returns-in-Some-clause-after c = search rules
