use Rattle.ksi_top.proofs.Ends.{done_ends, saving_ends}
use Rattle.ksi_top.proofs.Performing.{performed_alone}
use Rattle.ksi_top.proofs.perform.perform.Goals as goal

pub returns-in-Make : goal.returns-in-Make
returns-in-Make g c = rw c.in-Make.is (performed_alone g.F.Files _ 1 _ _ c.make.result _ (saving_ends _ _ _) c.ended.ensures c.make.ensures.told c.make.ensures.headline)

pub returns-in-Drill : goal.returns-in-Drill
returns-in-Drill g c = rw c.in-Drill.is (performed_alone g.F.Files _ 0 _ _ c.drill.result _ (done_ends _) c.ended-in-Drill.ensures c.drill.ensures.told c.drill.ensures.headline)
