use Rattle.std.proofs.Common.{◌∙◌, ◌++◌, ℕ, List, Result, Ok, ap, sym, subst}
use Rattle.std.specs.List.{AllByRecursion}
use Rattle.ksi_imprint.specs.Imprints.{IsImprint}
use Rattle.ksi_calendar.specs.Calendar.{Seconds}
use Rattle.ksi_calendar_folder.specs.declared.fault.FolderFault.{FolderFault}
use Rattle.ksi_calendar_folder.specs.Folder.{◌>>=◌, follows}
use Rattle.ksi_calendar_folder.proofs.Faults.{expected_fault}
use Rattle.ksi_calendar_folder.proofs.Gathered.{both_imprints}
use Rattle.ksi_calendar_folder.proofs.gathering.add_full_file.Goals as goal

pub returns-in-Err-clause-told : goal.returns-in-Err-clause-told
returns-in-Err-clause-told g c =
    let more = c.args.calendar.now.roots ++ c.args.file.now.roots in
    expected_fault (follows c.args.last.now c.args.file.now >>= λ _. Ok more) c.in-Err.fault (ap (λ (r : Result (Unit {0}) FolderFault). r >>= λ _. Ok more) (sym c.in-Err.ensures.read))

pub returns-clause-told : goal.returns-clause-told
returns-clause-told g c =
    let more = c.args.calendar.now.roots ++ c.args.file.now.roots in
    ap (λ (r : Result (Unit {0}) FolderFault). r >>= λ _. Ok more) (sym c.in_default.ensures.read)
    ∙ ap (λ (xs : List (List ℕ)). Ok xs) (sym (ap (λ (s : Seconds). s.roots) c.in_ok-append_all.ensures.added ∙ ap (λ (xs : List (List ℕ)). c.args.calendar.now.roots ++ xs) c.roots.ensures))

pub returns-clause-imprints : goal.returns-clause-imprints
returns-clause-imprints g c =
    subst (AllByRecursion IsImprint) (sym (ap (λ (s : Seconds). s.roots) c.in_ok-append_all.ensures.added))
    (both_imprints c.args.calendar.now.roots c.roots.result.now c.requires.imprints (subst (AllByRecursion IsImprint) (sym c.roots.ensures) c.has_imprints.ensures))
