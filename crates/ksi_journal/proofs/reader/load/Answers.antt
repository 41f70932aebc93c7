use Rattle.std.proofs.Common.{inr, sym, subst, ◌∙◌}
use Rattle.std.proofs.lemmas.Result.{err_from_is_err_and}
use Rattle.ksi_journal.specs.Journal.{IsJournal}
use Rattle.ksi_journal.specs.File.{IsJournalFile}
use Rattle.ksi_journal.proofs.Files.{journal_whole, journal_refused}
use Rattle.ksi_journal.proofs.reader.load.Goals as goal

pub new-requires : goal.new-requires
new-requires g c =
    let image = g.C.Compress.image in
    subst (IsJournal image) (sym c.into_parts.ensures)
    (c.file_is_journal.ensures.journal image c.args.bytes.now c.walk.new.state.contents c.are_bytes.ensures
    (journal_whole image c.in-Some.version c.args.bytes.now c.in-Some.rest.now _ c.walk.new.state c.in-Some.ensures.some c.new-loading.ensures c.in-Ok.ensures.told))

pub returns-in_err-journal-in-Ok-clause-refused : goal.returns-in_err-journal-in-Ok-clause-refused
returns-in_err-journal-in-Ok-clause-refused g c =
    let p = err_from_is_err_and c.from_residual.result c.from_residual.ensures.1 in
    rw (p.1, p.2) (inr (
      c.walk.new.state.contents,
      journal_whole g.C.Compress.image c.in-Some.version c.args.bytes.now c.in-Some.rest.now _ c.walk.new.state c.in-Some.ensures.some c.new-loading.ensures c.in-Ok.ensures.told,
    ))

pub returns-in-Err-clause-refused : goal.returns-in-Err-clause-refused
returns-in-Err-clause-refused g c =
    journal_refused g.C.Compress.image c.in-Some.version c.args.bytes.now c.in-Some.rest.now _ c.walk.new.state c.in-Err.refused c.in-Some.ensures.some c.new-loading.ensures c.in-Err.ensures.told c.in-Err.ensures.wanting

pub returns-in_ok-journal-in-Ok-clause-journal : goal.returns-in_ok-journal-in-Ok-clause-journal
returns-in_ok-journal-in-Ok-clause-journal g c =
    subst (IsJournalFile g.C.Compress.image c.args.bytes.now) (sym (c.in_ok-journal-in-Ok.ensures ∙ c.into_parts.ensures))
    (journal_whole g.C.Compress.image c.in-Some.version c.args.bytes.now c.in-Some.rest.now _ c.walk.new.state c.in-Some.ensures.some c.new-loading.ensures c.in-Ok.ensures.told)
