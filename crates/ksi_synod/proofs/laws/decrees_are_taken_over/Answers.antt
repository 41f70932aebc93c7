use Rattle.ksi_synod.proofs.Examples.{history_is, candidate_is, first_is, second_is}
use Rattle.ksi_synod.proofs.laws.decrees_are_taken_over.Goals as goal

pub returns-clause-history : goal.returns-clause-history
returns-clause-history c = history_is

pub returns-clause-candidate : goal.returns-clause-candidate
returns-clause-candidate c = candidate_is

pub returns-clause-first : goal.returns-clause-first
returns-clause-first c = first_is

pub returns-clause-second : goal.returns-clause-second
returns-clause-second c = second_is
