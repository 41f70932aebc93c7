use Rattle.ksi_aggregator.specs.Lawful.{stored_by}
use Rattle.ksi_roundstore.specs.Left.{is_forgotten}
use Rattle.ksi_roundstore.proofs.Leaving.{left_facts}
use Rattle.ksi_roundstore.proofs.Unnoticed.{round_goes, round_stays, rounds_left}
use Rattle.ksi_roundstore.proofs.laws.facts_left_are_lawful.Goals as goal

pub returns-clause-lawful : goal.returns-clause-lawful
returns-clause-lawful c = λ forgotten facts lawful.
    (left_facts forgotten c.facts_one_by_one.ensures.none c.facts_one_by_one.ensures.more c.facts_one_by_one.ensures.stored facts lawful).lawful

pub returns-clause-rounds : goal.returns-clause-rounds
returns-clause-rounds c = λ me before facts whole other lawful of of_left.
    rounds_left me before facts whole other of of_left (λ t. ((c.one_aggregator_of_facts.ensures.has me facts whole lawful of).well t).last)
    (left_facts (is_forgotten before (stored_by facts)) c.facts_one_by_one.ensures.none c.facts_one_by_one.ensures.more c.facts_one_by_one.ensures.stored facts lawful)

pub returns-clause-stay : goal.returns-clause-stay
returns-clause-stay c = λ me forgotten facts rounds other t has of_left.
    round_stays me forgotten facts rounds other t has of_left (left_facts forgotten c.facts_one_by_one.ensures.none c.facts_one_by_one.ensures.more c.facts_one_by_one.ensures.stored facts has.lawful)

pub returns-clause-gone : goal.returns-clause-gone
returns-clause-gone c = λ me forgotten facts rounds other t has of_left.
    round_goes me forgotten facts rounds other t has of_left (left_facts forgotten c.facts_one_by_one.ensures.none c.facts_one_by_one.ensures.more c.facts_one_by_one.ensures.stored facts has.lawful)
