use Rattle.ksi_top.proofs.Running.{as_result, run_faulted, run_finished, run_wanting}
use Rattle.ksi_top.proofs.ending.run_words.Goals as goal

pub returns-in-Ok : goal.returns-in-Ok
returns-in-Ok g c = run_finished g.F.Files g.K.Sink _ _ _ _ _ _ c.in-Ok.report _ c.in-Ok.ensures c.finish.ensures

pub returns-in-Err-Reported : goal.returns-in-Err-Reported
returns-in-Err-Reported g c = run_finished g.F.Files g.K.Sink _ _ _ _ _ _ c.in-Err-Reported.report _ (as_result g.F.Files _ _ _ c.in-Err-Reported.report (rw c.in-Err-Reported.field-0-is at c.in-Err-Reported.ensures)) c.finish-in-Err-Reported.ensures

pub returns-in-Err-Fault : goal.returns-in-Err-Fault
returns-in-Err-Fault g c = run_faulted g.F.Files g.K.Sink _ _ _ _ (rw c.in-Err-Fault.field-0-is at c.in-Err-Fault.ensures)

pub returns-in-Err-NoMemory : goal.returns-in-Err-NoMemory
returns-in-Err-NoMemory g c = run_wanting g.F.Files g.K.Sink _ _ _ _ (rw c.in-Err-NoMemory.field-0-is at c.in-Err-NoMemory.ensures)
