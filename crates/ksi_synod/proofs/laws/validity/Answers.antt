use Rattle.ksi_synod.proofs.Histories.{validity_holds}
use Rattle.ksi_synod.proofs.laws.validity.Goals as goal

pub returns : goal.returns
returns c = validity_holds
