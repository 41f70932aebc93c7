use Rattle.std.proofs.Common.{◌≡◌, ◌∙◌, ◌≤◌, ℕ, List, ap, sym, subst, Some, length}
use Rattle.ksi_calendar_folder.specs.Folder.{folder_of}
use Rattle.ksi_calendar_folder.proofs.Faults.{loaded, too_long}
use Rattle.ksi_calendar_folder.proofs.loading.load_file.Goals as goal

pub returns-in-Ok-clause-told : goal.returns-in-Ok-clause-told
returns-in-Ok-clause-told g c = λ tells.
    let held = g.F.Files.held c.args.files.now in
    let folder = folder_of held c.args.folder.now in
    let told = c.in-Ok.ensures.told tells in
    let at : folder c.args.number ≡ Some c.as_slice.result.now = ap held (sym (c.as_str.ensures.value ∙ c.in_ok-name.ensures)) ∙ told.0 ∙ ap Some (sym c.as_slice.ensures) in
    loaded folder c.args.number c.as_slice.result.now at (subst (λ (l : List ℕ). length l ≤ 135229) (sym c.as_slice.ensures) told.1) c.file_of.result c.file_of.ensures.read

pub returns-in-Err-TooLong-clause-told : goal.returns-in-Err-TooLong-clause-told
returns-in-Err-TooLong-clause-told g c = λ tells.
    let held = g.F.Files.held c.args.files.now in
    let folder = folder_of held c.args.folder.now in
    let told = rw c.in-Err-TooLong.field-0-is at (c.in-Err-TooLong.ensures.told tells) in
    let at : folder c.args.number ≡ Some told.0 = ap held (sym (c.as_str.ensures.value ∙ c.in_ok-name.ensures)) ∙ told.1 in
    too_long folder c.args.number told.0 at told.2
