use Rattle.ksi_synod.proofs.Owning.{fresh_own, seal_own, ballot_keeps, message_keeps, restart_own}
use Rattle.ksi_synod.proofs.laws.rows_keep_states.Goals as goal

pub returns-clause-first : goal.returns-clause-first
returns-clause-first c = fresh_own

pub returns-clause-seal : goal.returns-clause-seal
returns-clause-seal c = λ voters core s candidate own. seal_own voters core s own candidate

pub returns-clause-ballot : goal.returns-clause-ballot
returns-clause-ballot c = ballot_keeps

pub returns-clause-message : goal.returns-clause-message
returns-clause-message c = λ voters core s from m own. message_keeps voters core s own from m

pub returns-clause-restart : goal.returns-clause-restart
returns-clause-restart c = restart_own
