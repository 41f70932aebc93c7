use Rattle.std.specs.Prelude.{nat_le}
use Rattle.ksi_laws_forgetting.proofs.Keeping.{left_facts, rounds_left}
use Rattle.ksi_laws_forgetting.proofs.rounds.round_facts_left_are_valid.Goals as goal

pub returns-clause-valid : goal.returns-clause-valid
returns-clause-valid c = λ kept facts lawful.
    (left_facts kept c.facts_one_by_one.ensures.none c.facts_one_by_one.ensures.more c.facts_one_by_one.ensures.stored facts lawful).lawful

pub returns-clause-rounds : goal.returns-clause-rounds
returns-clause-rounds c = λ me before facts whole other lawful of of_left.
    rounds_left me before facts whole other of of_left
    (left_facts (nat_le before) c.facts_one_by_one.ensures.none c.facts_one_by_one.ensures.more c.facts_one_by_one.ensures.stored facts lawful)
