use Rattle.ksi_laws_facts.proofs.Growing.{facts_grow, core_adds_none, aggregator_adds_none}
use Rattle.ksi_laws_facts.proofs.laws.facts_only_grow.Goals as goal

pub returns-clause-grow : goal.returns-clause-grow
returns-clause-grow c = λ image plan actor events later. facts_grow image plan actor events later

pub returns-clause-core : goal.returns-clause-core
returns-clause-core c = λ image plan actor events core. core_adds_none image plan actor events core

pub returns-clause-aggregator : goal.returns-clause-aggregator
returns-clause-aggregator c = λ image plan actor events aggregator. aggregator_adds_none image plan actor events aggregator
