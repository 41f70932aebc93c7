use Rattle.ksi_tlv.proofs.Wholes.{wholes}
use Rattle.ksi_tlv.proofs.grammar.laws.inside_is_whole.Goals as goal

pub returns : goal.returns
returns c = wholes
