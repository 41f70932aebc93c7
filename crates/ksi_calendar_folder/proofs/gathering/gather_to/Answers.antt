use Rattle.std.proofs.Common.{◌≡◌, ◌∙◌, ◌++◌, ap, sym, subst, arith}
use Rattle.std.specs.List.{AllByRecursion}
use Rattle.ksi_imprint.specs.Imprints.{IsImprint}
use Rattle.ksi_calendar.specs.Calendar.{Seconds}
use Rattle.ksi_calendar_folder.specs.Folder.{all_full, folder_of, from_start, reaching, seconds_of}
use Rattle.ksi_calendar_folder.proofs.Faults.{gives_all, of_adds}
use Rattle.ksi_calendar_folder.proofs.Gathered.{before, both_imprints, no_full, reached}
use Rattle.ksi_calendar_folder.proofs.gathering.gather_to.Goals as goal

pub returns-then-p-start-clause-told : goal.returns-then-p-start-clause-told
returns-then-p-start-clause-told g c = λ tells.
    before (folder_of (g.F.Files.held c.args.files.now) c.args.folder.now) c.args.p c.args.last.now (omega arith)

pub returns-in-Err-clause-told : goal.returns-in-Err-clause-told
returns-in-Err-clause-told g c = λ tells.
    let folder = folder_of (g.F.Files.held c.args.files.now) c.args.folder.now in
    no_full folder c.args.p c.args.last.now (omega arith) c.in-Err.refused (of_adds (all_full c.args.last.now folder) c.add_full.new.calendar c.in-Err.refused (c.in-Err.ensures.told tells))

pub returns-clause-told : goal.returns-clause-told
returns-clause-told g c = λ tells.
    let folder = folder_of (g.F.Files.held c.args.files.now) c.args.folder.now in
    let last = c.args.last.now in
    let roots = c.add_full.new.calendar.roots in
    let seconds = c.append_all.new.self in
    let made : seconds ≡ seconds_of last roots = c.in_ok-append_all.ensures.added ∙ (λ i. record { start = c.in_default.ensures.start i; roots = roots ++ c.roots.ensures i }) in
    gives_all (from_start folder c.args.p last) (reaching c.args.p seconds) c.reaching.result
    (reached folder c.args.p last (omega arith) roots seconds (c.in_default.ensures.told tells) made) c.reaching.ensures.told

pub reaching-requires-clause-imprints : goal.reaching-requires-clause-imprints
reaching-requires-clause-imprints g c =
    subst (AllByRecursion IsImprint) (sym (ap (λ (s : Seconds). s.roots) c.in_ok-append_all.ensures.added))
    (both_imprints c.add_full.new.calendar.roots c.roots.result.now c.in_default.ensures.imprints (subst (AllByRecursion IsImprint) (sym c.roots.ensures) c.has_imprints.ensures))
