use Rattle.ksi_logblock.proofs.Again.{proof_again}
use Rattle.ksi_logblock.proofs.laws.text_is_proof.Goals as goal

pub returns : goal.returns
returns c = proof_again (record { texts = c.written_is_read.ensures.texts; value = c.numeral_is_read.ensures.value; size = c.numeral_is_read.ensures.size })
