use Rattle.ksi_tlv.proofs.WriteLaws.{elements-joined, elements-texts}
use Rattle.ksi_tlv.proofs.laws.written_is_read.Goals as goal

pub returns-clause-joined : goal.returns-clause-joined
returns-clause-joined c = elements-joined

pub returns-clause-texts : goal.returns-clause-texts
returns-clause-texts c = elements-texts
