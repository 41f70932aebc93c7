use Rattle.std.proofs.Common.{◌∙◌, List, ℕ, Ok, ap, sym}
use Rattle.ksi_calendar_folder.specs.Folder.{folder_of}
use Rattle.ksi_calendar_folder.proofs.Gathered.{root_given, root_refused}
use Rattle.ksi_calendar_folder.proofs.roots.root.Goals as goal

pub returns-in-Ok-clause-told : goal.returns-in-Ok-clause-told
returns-in-Ok-clause-told g c = λ tells.
    root_given g.C.Compress.image (folder_of (g.F.Files.held c.args.files.now) c.args.folder.now) c.args.p c.in-Ok.calendar (c.in-Ok.ensures.told tells)
    ∙ ap (λ (x : List ℕ). Ok x) (sym c.root_of.ensures)

pub returns-in-Err-clause-told : goal.returns-in-Err-clause-told
returns-in-Err-clause-told g c = λ tells.
    root_refused g.C.Compress.image (folder_of (g.F.Files.held c.args.files.now) c.args.folder.now) c.args.p c.in-Err.refused (c.in-Err.ensures.told tells)
