use Rattle.ksi_tlv.proofs.Publishing.{record_again, length-record}
use Rattle.ksi_tlv.proofs.grammar.laws.record_is_read.Goals as goal

pub returns-clause-read : goal.returns-clause-read
returns-clause-read c = record_again c.written_is_read.ensures.texts (record { value = c.numeral_is_read.ensures.value; size = c.numeral_is_read.ensures.size })

pub returns-clause-short : goal.returns-clause-short
returns-clause-short c = length-record (record { value = c.numeral_is_read.ensures.value; size = c.numeral_is_read.ensures.size })
