use Rattle.ksi_synod.proofs.Examples.{one_history_is, one_holds, one_sends}
use Rattle.ksi_synod.proofs.laws.one_voter_decides.Goals as goal

pub returns-clause-history : goal.returns-clause-history
returns-clause-history c = one_history_is

pub returns-clause-held : goal.returns-clause-held
returns-clause-held c = one_holds

pub returns-clause-messages : goal.returns-clause-messages
returns-clause-messages c = one_sends
