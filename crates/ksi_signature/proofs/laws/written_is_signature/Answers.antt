use Rattle.ksi_signature.proofs.SignatureAgain.{signature_again}
use Rattle.ksi_signature.proofs.laws.written_is_signature.Goals as goal

pub returns : goal.returns
returns c = signature_again (record {
  again = c.written_is_whole.ensures;
  held = c.inside_is_whole.ensures;
  published = c.published_is_read.ensures;
  short = c.record_is_read.ensures.short;
  spells = c.canonical_is_shortest.ensures.spells;
  value = c.numeral_is_read.ensures.value;
  size = c.numeral_is_read.ensures.size;
})
