use Rattle.std.proofs.Common.{refl}
use Rattle.ksi_laws_crashed.specs.Cores.{running_in}
use Rattle.ksi_laws_crashed.proofs.CoreCalls.{OneFile, cut_off, forgot, same_file, took}
use Rattle.ksi_laws_crashed.proofs.cores.core_calls_are_deeds.Goals as goal

pub returns : goal.returns
returns g c =
    let image = g.C.Compress.image in
    let content = g.D.Disk.content in
    let others = g.E.Disk.content in
    let one : OneFile = λ me plan facts others file is found. c.a_crash_is_a_restart.ensures.one me plan facts others file is found in
    record {
      took = λ me plan facts forgotten old new asked step is may turn stored. took one me plan image content forgotten facts old new asked step is.file may turn stored.file;
      opened = λ me plan file forgotten store opens. (opens.0, opens.3.file, opens.2);
      cut_off = λ me plan facts forgotten old new asked file store is may leaves left opens stays.
          cut_off one me plan image content forgotten facts old asked file (running_in others store forgotten) is.file may (leaves.each file left) stays (opens.0, opens.3.file, opens.2) refl;
      refused = λ forgotten old new same. record { core = same.core; file = same_file content old new same.log; forgets = refl };
      forgot = λ me plan facts forgotten horizon records left old file fresh named store is image_of so either opens stays.
          forgot one me plan image content others forgotten horizon records left old file fresh named store (is.settled.durable file image_of) so either stays (opens.0, opens.3.file, opens.2);
    }
