use Rattle.ksi_synod.proofs.Majorities.{flags_meet}
use Rattle.ksi_synod.proofs.laws.majorities_meet.Goals as goal

pub returns : goal.returns
returns c = flags_meet
