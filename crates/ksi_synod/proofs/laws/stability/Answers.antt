use Rattle.ksi_synod.proofs.Lasting.{held_lasts, candidate_lasts}
use Rattle.ksi_synod.proofs.laws.stability.Goals as goal

pub returns-clause-held : goal.returns-clause-held
returns-clause-held c = held_lasts

pub returns-clause-candidate : goal.returns-clause-candidate
returns-clause-candidate c = candidate_lasts
