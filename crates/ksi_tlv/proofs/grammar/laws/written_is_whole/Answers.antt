use Rattle.ksi_tlv.proofs.Writes.{write_whole}
use Rattle.ksi_tlv.proofs.grammar.laws.written_is_whole.Goals as goal

pub returns : goal.returns
returns c = λ t place inside es. write_whole c.written_is_read.ensures.texts t place inside es
