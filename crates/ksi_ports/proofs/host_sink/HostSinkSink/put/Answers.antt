use Rattle.std.proofs.Common.{rules}
use Rattle.ksi_ports.proofs.WriteLemmas.{front_kept, front, appends_more}
use Rattle.ksi_ports.proofs.host_sink.HostSinkSink.put.Goals as goal

pub returns-then-write_whole-clause-given : goal.returns-then-write_whole-clause-given
returns-then-write_whole-clause-given g c = search (rules, appends_more, front, front_kept)

pub returns-clause-given : goal.returns-clause-given
returns-clause-given g c = search (rules, appends_more, front, front_kept)

pub returns-clause-counted : goal.returns-clause-counted
returns-clause-counted g c = search rules

pub returns-clause-writes : goal.returns-clause-writes
returns-clause-writes g c = search rules
