use Rattle.std.proofs.Common.{subst}
use Rattle.ksi_ports.specs.Stored.{Held}
use Rattle.ksi_calendar_folder.specs.Folder.{Gives, folder_of, from_start, seconds_to}
use Rattle.ksi_calendar_folder.proofs.Faults.{gives_all}
use Rattle.ksi_calendar_folder.proofs.Gathered.{from_last, no_last}
use Rattle.ksi_calendar_folder.proofs.gathering.gather.Goals as goal

pub returns-in-Ok-clause-told : goal.returns-in-Ok-clause-told
returns-in-Ok-clause-told g c = λ tells.
    let folder = folder_of (g.F.Files.held c.args.files.now) c.args.folder.now in
    let told = subst (λ (h : Held). Gives (from_start (folder_of h c.args.folder.now) c.args.p c.in-Ok.last) c.gather_to.result) c.in-Ok.ensures.stays (c.gather_to.ensures.told tells) in
    gives_all (seconds_to folder c.args.p) (from_start folder c.args.p c.in-Ok.last) c.gather_to.result
    (from_last folder c.args.p c.in-Ok.last (c.in-Ok.ensures.told tells)) told

pub returns-in-Err-clause-told : goal.returns-in-Err-clause-told
returns-in-Err-clause-told g c = λ tells.
    no_last (folder_of (g.F.Files.held c.args.files.now) c.args.folder.now) c.args.p c.in-Err.refused (c.in-Err.ensures.told tells)
