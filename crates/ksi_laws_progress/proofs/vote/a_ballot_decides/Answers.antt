use Rattle.ksi_laws_progress.proofs.Alone.{ballot_law, ahead_of, many_events}
use Rattle.ksi_laws_progress.proofs.vote.a_ballot_decides.Goals as goal

pub returns-clause-decides : goal.returns-clause-decides
returns-clause-decides c = λ set_up events is voters core candidate some lt majority more ahead. ballot_law set_up c.agreement.ensures c.states_are_kept.ensures.history events is voters core candidate some lt majority more ahead

pub returns-clause-events : goal.returns-clause-events
returns-clause-events c = λ set_up m core candidate some. many_events set_up m core candidate some

pub returns-clause-ahead : goal.returns-clause-ahead
returns-clause-ahead c = λ m core cores. ahead_of m core cores
