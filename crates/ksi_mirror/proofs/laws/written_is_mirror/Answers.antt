use Rattle.ksi_mirror.proofs.Again.{mirror_again}
use Rattle.ksi_mirror.proofs.laws.written_is_mirror.Goals as goal

pub returns : goal.returns
returns c = mirror_again (record {
  texts = c.written_is_read.ensures.texts;
  value = c.numeral_is_read.ensures.value;
  size = c.numeral_is_read.ensures.size;
})
