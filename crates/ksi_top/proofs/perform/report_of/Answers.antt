use Rattle.ksi_top.proofs.Reporting.{reported_by_command, reported_of_refusal, words_wanting}
use Rattle.ksi_top.proofs.perform.report_of.Goals as goal

pub returns-in-Ok : goal.returns-in-Ok
returns-in-Ok g c = reported_by_command g.F.Files _ _ _ _ _ c.in-Ok.ensures.reads c.perform.ensures

pub returns-in-Err-Fault : goal.returns-in-Err-Fault
returns-in-Err-Fault g c = reported_of_refusal g.F.Files _ c.in-Err-Fault.refusal _ _ (rw c.in-Err-Fault.field-0-is at c.in-Err-Fault.ensures.reads) (rw c.in-Err-Fault.field-0-is at c.refused.ensures)

pub returns-in-Err-NoMemory : goal.returns-in-Err-NoMemory
returns-in-Err-NoMemory g c = words_wanting g.F.Files _ _
