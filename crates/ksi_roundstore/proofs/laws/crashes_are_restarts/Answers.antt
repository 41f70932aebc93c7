use Rattle.ksi_roundstore.proofs.Crashed.{store_idle, store_left}
use Rattle.ksi_roundstore.proofs.Onward.{Laws}
use Rattle.ksi_roundstore.proofs.laws.crashes_are_restarts.Goals as goal

pub returns : goal.returns
returns g c =
    let image = g.C.Compress.image in
    let content = g.D.Disk.content in
    let images = g.D.Disk.images in
    let laws : Laws = record { facts = c.steps_are_lawful.ensures.facts; restarted = c.one_aggregator_of_facts.ensures.restarted } in
    record {
      taking = λ me plan facts old new event file opened is may written leaves left opens.
          store_left laws image content images me plan facts opens.0 old event file opened is may written (leaves.each file left) opens.1 opens.2;
      failed = λ me plan facts old new event file opened is may written leaves left opens.
          store_left laws image content images me plan facts opens.0 old event file opened is may written
          (leaves.each file (g.met.D.Disk.counts_now new.log.disk (g.D.Disk.moment old.log.disk) file leaves.later left)) opens.1 opens.2;
      idle = λ me plan facts old file opened is left opens. store_idle laws image content images me plan facts opens.0 old file opened is left opens.1 opens.2;
      opening = λ old new file leaves left. leaves.each file left;
    }
