use Rattle.ksi_synod.proofs.Choosing.{history_own, reached_own}
use Rattle.ksi_synod.proofs.laws.states_are_kept.Goals as goal

pub returns-clause-history : goal.returns-clause-history
returns-clause-history c = history_own

pub returns-clause-steps : goal.returns-clause-steps
returns-clause-steps c = reached_own
