use Rattle.ksi_node_file.proofs.Calls.{OneFile, took, opened, cut_off, same_file}
use Rattle.ksi_node_file.proofs.laws.calls_are_deeds.Goals as goal

pub returns : goal.returns
returns g c =
    let image = g.C.Compress.image in
    let content = g.D.Disk.content in
    let images = g.D.Disk.images in
    let others = g.E.Disk.content in
    let left_by = g.E.Disk.images in
    let one : OneFile = λ me plan facts others file is found. c.a_crash_is_a_restart.ensures.one me plan facts others file is found in
    record {
      took = λ me plan facts old new asked step is turn stored. took image content images others left_by one me plan facts old new asked step is turn stored;
      opened = λ me plan file store opens. opened image content images others left_by one me plan opens.0 store opens.2 opens.3;
      cut_off = λ me plan facts old new asked file store is leaves left opens stays.
          cut_off image content images others left_by one me plan facts opens.0 old asked file store is (leaves.each file left) stays opens.2 opens.3;
      refused = λ old new same. record { core = same.core; file = same_file content old new same.log };
    }
