use Rattle.ksi_journal.specs.Written.{version_of}
use Rattle.ksi_journal.proofs.Again.{version_allows}
use Rattle.ksi_journal.proofs.laws.written_is_journal.Goals as goal

pub returns : goal.returns
returns c image journal is = c.text_is_journal.ensures image (version_of journal) journal is (version_allows journal)
