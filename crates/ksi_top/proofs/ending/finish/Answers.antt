use Rattle.ksi_top.proofs.Finishing.{finished_failed, finished_put, finished_wanting}
use Rattle.ksi_top.proofs.ending.finish.Goals as goal

pub returns-in-Ok : goal.returns-in-Ok
returns-in-Ok g c = finished_put g.F.Files g.K.Sink _ _ _ _ _ _ c.requires.unsaved c.in-Ok.ensures c.put.ensures

pub returns-in-Err-Failed : goal.returns-in-Err-Failed
returns-in-Err-Failed g c = finished_failed g.F.Files g.K.Sink _ _ _ _ (rw c.in-Err-Failed.field-0-is at c.in-Err-Failed.ensures)

pub returns-in-Err-NoMemory : goal.returns-in-Err-NoMemory
returns-in-Err-NoMemory g c = finished_wanting g.F.Files g.K.Sink _ _ _ _ (rw c.in-Err-NoMemory.field-0-is at c.in-Err-NoMemory.ensures)
