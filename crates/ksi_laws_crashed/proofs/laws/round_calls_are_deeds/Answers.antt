use Rattle.std.proofs.Common.{refl}
use Rattle.ksi_laws_crashed.specs.Aggregators.{running_in}
use Rattle.ksi_laws_crashed.proofs.Calls.{OneFile, early, took, cut_off, forgot, same_file}
use Rattle.ksi_laws_crashed.proofs.laws.round_calls_are_deeds.Goals as goal

pub returns : goal.returns
returns g c =
    let image = g.C.Compress.image in
    let content = g.D.Disk.content in
    let others = g.E.Disk.content in
    let goes = c.stores_go_on.ensures in
    let one : OneFile = λ me plan facts others file is found. c.a_file_is_of_one_list_of_facts.ensures me plan facts others file is found in
    record {
      took = λ me plan facts forgotten old new asked live step is may written so turn stored.
          took one me plan forgotten image content facts old new asked live step is.file so turn (goes.stored me plan facts old new live step is may (early live written.fits) written turn stored).file;
      opened = λ me plan file forgotten store opens. (opens.0, opens.3.file, opens.2);
      cut_off = λ me plan facts forgotten old new asked live file store is may written so leaves left opens stays.
          cut_off one me plan forgotten image content facts old asked live file (running_in others store forgotten) is.file so (goes.left me plan facts old live file is may (early live written.fits) written (leaves.each file left)) stays (opens.0, opens.3.file, opens.2) refl;
      refused = λ forgotten old new same. record { me = same.me; rounds = same.rounds; file = same_file content old new same.log; forgets = refl };
      forgot = λ me plan facts forgotten before records left old file fresh named store is image_of so either opens stays.
          forgot one me plan forgotten image content others facts before records left old file fresh named store is.file (is.settled.durable file image_of) so either stays (opens.0, opens.3.file, opens.2);
    }
