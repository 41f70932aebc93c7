use Rattle.ksi_journal.proofs.Files.{journal_read, fault_read}
use Rattle.ksi_journal.proofs.laws.journal_is_read.Goals as goal

pub returns-clause-journal : goal.returns-clause-journal
returns-clause-journal c image bytes = journal_read image bytes (record { value = c.file_is_read.ensures.value; fault = c.file_is_read.ensures.fault })

pub returns-clause-fault : goal.returns-clause-fault
returns-clause-fault c image bytes = fault_read image bytes (record { value = c.file_is_read.ensures.value; fault = c.file_is_read.ensures.fault })
