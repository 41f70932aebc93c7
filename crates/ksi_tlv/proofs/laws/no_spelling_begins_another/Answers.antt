use Rattle.ksi_tlv.proofs.FrontLaws.{one_spelling}
use Rattle.ksi_tlv.proofs.laws.no_spelling_begins_another.Goals as goal

pub returns : goal.returns
returns c = one_spelling
