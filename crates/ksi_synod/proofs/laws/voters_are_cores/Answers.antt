use Rattle.ksi_synod.proofs.Planning.{voters_there, listed, few_voters, more_pairs}
use Rattle.ksi_synod.proofs.laws.voters_are_cores.Goals as goal

pub returns-clause-voters : goal.returns-clause-voters
returns-clause-voters c = voters_there

pub returns-clause-listed : goal.returns-clause-listed
returns-clause-listed c = λ cores voters are. listed cores voters are.rising are.there

pub returns-clause-few : goal.returns-clause-few
returns-clause-few c = λ cores voters are. few_voters cores voters are.rising are.there

pub returns-clause-more : goal.returns-clause-more
returns-clause-more c = more_pairs
