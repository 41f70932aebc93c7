use Rattle.ksi_tlv.proofs.ReadingLaws.{reading_of, reading_is}
use Rattle.ksi_tlv.proofs.laws.reading_is_elements.Goals as goal

pub returns : goal.returns
returns c = λ place bytes items fits. (reading_of place bytes items fits, reading_is place bytes items fits)
