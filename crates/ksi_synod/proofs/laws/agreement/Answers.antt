use Rattle.ksi_synod.proofs.Histories.{agreement_holds}
use Rattle.ksi_synod.proofs.laws.agreement.Goals as goal

pub returns : goal.returns
returns c = agreement_holds
