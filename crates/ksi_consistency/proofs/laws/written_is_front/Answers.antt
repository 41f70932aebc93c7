use Rattle.ksi_consistency.proofs.Again.{front_again}
use Rattle.ksi_consistency.proofs.laws.written_is_front.Goals as goal

pub returns : goal.returns
returns c = front_again (record {
  texts = c.written_is_read.ensures.texts;
  value = c.numeral_is_read.ensures.value;
  size = c.numeral_is_read.ensures.size;
})
