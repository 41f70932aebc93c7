use Rattle.ksi_publications.proofs.Writes.{file_again}
use Rattle.ksi_publications.proofs.laws.written_is_publications.Goals as goal

pub returns : goal.returns
returns c = file_again (record {
  again = c.written_is_whole.ensures;
  held = c.inside_is_whole.ensures;
  read = c.record_is_read.ensures.read;
  short = c.record_is_read.ensures.short;
  value = c.numeral_is_read.ensures.value;
  size = c.numeral_is_read.ensures.size;
})
