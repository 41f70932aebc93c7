use Rattle.std.proofs.Common.{Err, subst}
use Rattle.ksi_schedule.specs.Spelled.{Tells}
use Rattle.ksi_node.proofs.Planned.{fault_in}
use Rattle.ksi_node.proofs.program.plan_in.Goals as goal

pub returns-in-Err-Fault-Line : goal.returns-in-Err-Fault-Line
returns-in-Err-Fault-Line c = fault_in c.args.text.now c.in-Err-Fault-Line.field-0-0 (subst (λ refusal. Tells c.args.text.now (Err refusal)) c.in-Err-Fault-Line.field-0-is c.in-Err-Fault-Line.ensures.told)
