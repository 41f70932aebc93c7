use Rattle.ksi_calendar_folder.specs.Folder.{folder_of}
use Rattle.ksi_calendar_folder.specs.Over.{front_in, front_over}
use Rattle.ksi_calendar_folder.proofs.Faults.{gives_all}
use Rattle.ksi_calendar_folder.proofs.Gathered.{front_given, front_refused}
use Rattle.ksi_calendar_folder.proofs.fronts.front.Goals as goal

pub returns-in-Ok-clause-told : goal.returns-in-Ok-clause-told
returns-in-Ok-clause-told g c = λ tells.
    let folder = folder_of (g.F.Files.held c.args.files.now) c.args.folder.now in
    gives_all (front_in g.C.Compress.image folder c.args.p1 c.args.p2) (front_over g.C.Compress.image c.args.p1 c.args.p2 c.in-Ok.calendar) c.front_of.result
    (front_given g.C.Compress.image folder c.args.p1 c.args.p2 c.in-Ok.calendar (c.in-Ok.ensures.told tells)) c.front_of.ensures

pub returns-in-Err-clause-told : goal.returns-in-Err-clause-told
returns-in-Err-clause-told g c = λ tells.
    front_refused g.C.Compress.image (folder_of (g.F.Files.held c.args.files.now) c.args.folder.now) c.args.p1 c.args.p2 c.in-Err.refused (c.in-Err.ensures.told tells)
