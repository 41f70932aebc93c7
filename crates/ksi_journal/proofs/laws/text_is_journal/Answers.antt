use Rattle.ksi_journal.proofs.Again.{journal_again}
use Rattle.ksi_journal.proofs.laws.text_is_journal.Goals as goal

pub returns : goal.returns
returns c = journal_again (record {
  texts = c.written_is_read.ensures.texts;
  value = c.numeral_is_read.ensures.value;
  size = c.numeral_is_read.ensures.size;
}) (record { listed = c.voters_are_cores.ensures.listed })
