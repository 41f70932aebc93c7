use Rattle.std.proofs.Common.{◌++◌, Ok}
use Rattle.ksi_calendar_folder.specs.Folder.{◌>>=◌, folder_of, follows, full_in}
use Rattle.ksi_calendar_folder.proofs.Faults.{adds_of, adds_same}
use Rattle.ksi_calendar_folder.proofs.Gathered.{no_file, then_follows}
use Rattle.ksi_calendar_folder.proofs.gathering.add_file.Goals as goal

pub returns-in-Ok-clause-told : goal.returns-in-Ok-clause-told
returns-in-Ok-clause-told g c = λ tells.
    let last = c.args.last.now in
    let folder = folder_of (g.F.Files.held c.args.files.now) c.args.folder.now in
    let roots = c.args.calendar.now.roots in
    let number = c.args.number in
    adds_same (full_in last folder roots number) (follows last c.in-Ok.file >>= λ _. Ok (roots ++ c.in-Ok.file.roots)) c.add_full_file.new.calendar c.add_full_file.result
    (then_follows last folder roots number c.in-Ok.file (c.in-Ok.ensures.told tells)) c.add_full_file.ensures.told

pub returns-in-Err-clause-told : goal.returns-in-Err-clause-told
returns-in-Err-clause-told g c = λ tells.
    let last = c.args.last.now in
    let folder = folder_of (g.F.Files.held c.args.files.now) c.args.folder.now in
    let roots = c.args.calendar.now.roots in
    let number = c.args.number in
    adds_of (full_in last folder roots number) c.args.calendar.now c.in-Err.refused (no_file last folder roots number c.in-Err.refused (c.in-Err.ensures.told tells))
