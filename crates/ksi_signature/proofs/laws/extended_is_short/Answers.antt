use Rattle.ksi_signature.proofs.Lasting.{extended_short}
use Rattle.ksi_signature.proofs.laws.extended_is_short.Goals as goal

pub returns : goal.returns
returns c =
    extended_short (record { whole = c.whole_or_fault.ensures.whole; fault = c.whole_or_fault.ensures.fault; found = c.front_by_spelling.ensures.found; spelled = c.front_by_spelling.ensures.spelled })
    c.reading_is_elements.ensures
    (record {
      again = c.written_is_whole.ensures;
      held = c.inside_is_whole.ensures;
      published = c.published_is_read.ensures;
      short = c.record_is_read.ensures.short;
      spells = c.canonical_is_shortest.ensures.spells;
      value = c.numeral_is_read.ensures.value;
      size = c.numeral_is_read.ensures.size;
    })
