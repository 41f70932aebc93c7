use Rattle.ksi_roundstore.proofs.ReadAs.{not_refused}
use Rattle.ksi_roundstore.proofs.events.read_line.Goals as goal

pub returns-in-Err-Fault-clause-none : goal.returns-in-Err-Fault-clause-none
returns-in-Err-Fault-clause-none c = not_refused c.args.plan.now c.args.me c.args.line.now _ (rw c.in-Err-Fault.field-0-is at c.in-Err-Fault.ensures.exact)
