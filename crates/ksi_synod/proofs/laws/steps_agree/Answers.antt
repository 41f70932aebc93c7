use Rattle.ksi_synod.proofs.Reaching.{reached_agree, reached_valid}
use Rattle.ksi_synod.proofs.laws.steps_agree.Goals as goal

pub returns-clause-agreement : goal.returns-clause-agreement
returns-clause-agreement c = reached_agree

pub returns-clause-validity : goal.returns-clause-validity
returns-clause-validity c = reached_valid
