use Rattle.ksi_tlv.proofs.Publishing.{published_again}
use Rattle.ksi_tlv.proofs.grammar.laws.published_is_read.Goals as goal

pub returns : goal.returns
returns c = published_again c.written_is_read.ensures.texts (record { value = c.numeral_is_read.ensures.value; size = c.numeral_is_read.ensures.size })
