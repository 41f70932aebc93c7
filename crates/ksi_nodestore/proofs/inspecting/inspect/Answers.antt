use Rattle.std.proofs.Common.{ap, sym, ◌∙◌}
use Rattle.ksi_nodestore.specs.Headers.{header_at}
use Rattle.ksi_nodestore.proofs.inspecting.inspect.Goals as goal

pub returns-in-Err : goal.returns-in-Err
returns-in-Err g c = c.fault_of.ensures c.args.bytes.now (ap header_at (sym c.front.ensures) ∙ sym c.in-Err.ensures.head)
