use Rattle.ksi_nodestore.proofs.Crashed.{Laws, store_left, store_idle}
use Rattle.ksi_nodestore.proofs.laws.crashes_are_restarts.Goals as goal

pub returns : goal.returns
returns g c =
    let image = g.C.Compress.image in
    let content = g.D.Disk.content in
    let images = g.D.Disk.images in
    let laws : Laws image = record {
      restarted = λ plan facts core other has of. c.one_core_of_facts.ensures.restarted image plan facts core other has of;
      taken = λ plan facts core other event has may of. c.steps_come_back.ensures image plan facts core other event has may of;
    } in
    record {
      taking = λ me plan facts old new event file opened is may leaves left opens.
          store_left image laws content images me plan facts opens.0 old event file opened is may (leaves.each file left) opens.1 opens.2;
      failed = λ me plan facts old new event file opened is may leaves left opens.
          store_left image laws content images me plan facts opens.0 old event file opened is may
          (leaves.each file (g.met.D.Disk.counts_now new.log.disk (g.D.Disk.moment old.log.disk) file leaves.later left)) opens.1 opens.2;
      idle = λ me plan facts old file opened is left opens. store_idle image laws content images me plan facts opens.0 old file opened is left opens.1 opens.2;
      opening = λ old new file leaves left. leaves.each file left;
    }
