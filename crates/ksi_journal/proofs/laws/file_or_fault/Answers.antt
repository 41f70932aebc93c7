use Rattle.ksi_journal.proofs.Files.{one_of, not_both, one_journal, one_fault}
use Rattle.ksi_journal.proofs.laws.file_or_fault.Goals as goal

pub returns-clause-one : goal.returns-clause-one
returns-clause-one c image bytes = let read = c.journal_is_read.ensures in one_of image bytes (record { journal = read.journal image bytes; fault = read.fault image bytes })

pub returns-clause-not_both : goal.returns-clause-not_both
returns-clause-not_both c image bytes = let read = c.journal_is_read.ensures in not_both image bytes (record { journal = read.journal image bytes; fault = read.fault image bytes })

pub returns-clause-one_journal : goal.returns-clause-one_journal
returns-clause-one_journal c image bytes = let read = c.journal_is_read.ensures in one_journal image bytes (record { journal = read.journal image bytes; fault = read.fault image bytes })

pub returns-clause-one_fault : goal.returns-clause-one_fault
returns-clause-one_fault c image bytes = let read = c.journal_is_read.ensures in one_fault image bytes (record { journal = read.journal image bytes; fault = read.fault image bytes })
