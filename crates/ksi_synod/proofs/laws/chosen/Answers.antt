use Rattle.ksi_synod.proofs.Choosing.{history_chosen, reached_chosen}
use Rattle.ksi_synod.proofs.laws.chosen.Goals as goal

pub returns-clause-history : goal.returns-clause-history
returns-clause-history c = history_chosen

pub returns-clause-steps : goal.returns-clause-steps
returns-clause-steps c = reached_chosen
