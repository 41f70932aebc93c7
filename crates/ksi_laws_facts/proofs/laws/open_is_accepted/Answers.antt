use Rattle.ksi_laws_facts.proofs.Voters.{planned}
use Rattle.ksi_laws_facts.proofs.Recalling.{after_seconds, after_rounds}
use Rattle.ksi_laws_facts.proofs.laws.open_is_accepted.Goals as goal

pub returns-clause-seconds : goal.returns-clause-seconds
returns-clause-seconds c = λ image h is core second. (after_seconds image h.plan (planned c.voters_are_cores.ensures.voters h.plan is) h.events core second).open_items

pub returns-clause-rounds : goal.returns-clause-rounds
returns-clause-rounds c = λ image h is aggregator second. (after_rounds image h.plan (planned c.voters_are_cores.ensures.voters h.plan is) h.events aggregator second).open_items

pub returns-clause-sealed : goal.returns-clause-sealed
returns-clause-sealed c = λ image h is core second items. (after_seconds image h.plan (planned c.voters_are_cores.ensures.voters h.plan is) h.events core second).shut items

pub returns-clause-closed : goal.returns-clause-closed
returns-clause-closed c = λ image h is aggregator second items. (after_rounds image h.plan (planned c.voters_are_cores.ensures.voters h.plan is) h.events aggregator second).shut items
