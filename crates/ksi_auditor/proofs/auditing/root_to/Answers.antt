use Rattle.std.proofs.Common.{◌≡◌, sym, ◌∙◌}
use Rattle.ksi_calendar.specs.Calendar.{calendar_root}
use Rattle.ksi_calendar.specs.Covered.{IsCovered}
use Rattle.ksi_journal.specs.Journal.{root_at}
use Rattle.ksi_journal.specs.Calendar.{calendar_of}
use Rattle.ksi_auditor.proofs.Showing.{root_is}
use Rattle.ksi_auditor.proofs.auditing.root_to.Goals as goal

pub returns-in-Some : goal.returns-in-Some
returns-in-Some g c =
    let image = g.C.Compress.image in
    let j = c.args.journal.now in
    let p = c.args.last in
    let kept : IsCovered (root_at j) j.start p = record { from = c.requires.from; each = (c.one_first_missing.ensures.none (root_at j) j.start p).0 c.requires.kept } in
    let covered = (c.calendar_is_covered.ensures.covered image j p c.requires.journal).1 kept in
    let is = sym c.in-Some.is ∙ root_is image j p c.calendar.result.now c.root_to.result c.calendar.ensures c.root_to.ensures covered in
    let same : c.in-Some.root ≡ calendar_root image (calendar_of j) p = cc in
    same ∙ c.calendar_is_covered.ensures.root image j p c.requires.journal kept

pub returns-in-None : goal.returns-in-None
returns-in-None g c =
    let image = g.C.Compress.image in
    let j = c.args.journal.now in
    let p = c.args.last in
    let kept : IsCovered (root_at j) j.start p = record { from = c.requires.from; each = (c.one_first_missing.ensures.none (root_at j) j.start p).0 c.requires.kept } in
    let covered = (c.calendar_is_covered.ensures.covered image j p c.requires.journal).1 kept in
    let is = sym c.in-None.is ∙ root_is image j p c.calendar.result.now c.root_to.result c.calendar.ensures c.root_to.ensures covered in
    absurd cc
