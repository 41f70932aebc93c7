use Rattle.ksi_tlv.proofs.Publishing.{if_ok_short}
use Rattle.ksi_tlv.proofs.grammar.publication.written_published.Goals as goal

pub returns-clause-short : goal.returns-clause-short
returns-clause-short c =
    if_ok_short (record { value = c.numeral_is_read.ensures.value; size = c.numeral_is_read.ensures.size }) c.published_body.result c.args.time c.bytes.result.now c.bytes.ensures.imprint c.published_body.ensures
