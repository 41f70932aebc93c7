use Rattle.std.proofs.Common.{◌≡◌, sym, ◌∙◌, arith}
use Rattle.ksi_imprint.specs.Imprints.{imprint_of}
use Rattle.ksi_calendar.specs.Calendar.{calendar_root}
use Rattle.ksi_journal.specs.Calendar.{calendar_of}
use Rattle.ksi_replay.proofs.Accepted.{greatest_is, root_is}
use Rattle.ksi_replay.proofs.covered.root_to.Goals as goal

pub returns-in-Some : goal.returns-in-Some
returns-in-Some c =
    let journal = c.args.journal.now in
    let p = c.args.p in
    let last = greatest_is journal p c.requires in
    let covered = (c.calendar_is_covered.ensures.within imprint_of journal p c.start-start.ensures.journal).0 (last.0, omega (arith, last.1)) in
    let test = (c.calendar_is_covered.ensures.covered imprint_of journal p c.start-start.ensures.journal).1 covered in
    let is = sym c.in-Some.is ∙ root_is imprint_of journal p c.calendar.result.now c.root_to.result c.calendar.ensures c.root_to.ensures test in
    let same : c.in-Some.root ≡ calendar_root imprint_of (calendar_of journal) p = cc in
    same ∙ c.calendar_is_covered.ensures.root imprint_of journal p c.start-start.ensures.journal covered

pub returns-in-None : goal.returns-in-None
returns-in-None c =
    let journal = c.args.journal.now in
    let p = c.args.p in
    let last = greatest_is journal p c.requires in
    let covered = (c.calendar_is_covered.ensures.within imprint_of journal p c.start-start.ensures.journal).0 (last.0, omega (arith, last.1)) in
    let test = (c.calendar_is_covered.ensures.covered imprint_of journal p c.start-start.ensures.journal).1 covered in
    let is = sym c.in-None.is ∙ root_is imprint_of journal p c.calendar.result.now c.root_to.result c.calendar.ensures c.root_to.ensures test in
    absurd cc
