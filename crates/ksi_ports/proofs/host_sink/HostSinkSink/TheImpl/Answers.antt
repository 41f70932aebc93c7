-- What the trait asks, by the clauses of this sink. Nothing is told of what was written.
use Rattle.std.proofs.Common.{arith}
use Rattle.ksi_ports.proofs.host_sink.HostSinkSink.TheImpl.Goals as goal

pub put-tells : goal.put-tells
put-tells g c = record { free = omega arith; later = c.ensures.later; called = c.ensures.called; given = c.ensures.given; counted = c.ensures.counted; failed = c.ensures.failed; appended = λ told. cc; front = λ told. cc }
