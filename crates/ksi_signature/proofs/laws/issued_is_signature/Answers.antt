use Rattle.ksi_signature.proofs.Lasting.{text_small, issued_again}
use Rattle.ksi_signature.proofs.laws.issued_is_signature.Goals as goal

pub returns-clause-signature : goal.returns-clause-signature
returns-clause-signature c = λ second input links above may. issued_again c.numeral_is_read.ensures.fewest c.numeral_is_read.ensures.size second input links above may c.written_is_signature.ensures

pub returns-clause-short : goal.returns-clause-short
returns-clause-short c = λ second input links above may. text_small c.numeral_is_read.ensures.fewest c.numeral_is_read.ensures.size second input links above may
