use Rattle.std.proofs.Common.{◌∙◌}
use Rattle.ksi_laws_facts.proofs.Voters.{planned}
use Rattle.ksi_laws_facts.proofs.Recalling.{after_seconds}
use Rattle.ksi_laws_facts.proofs.laws.hand_is_since.Goals as goal

pub returns-clause-ballot : goal.returns-clause-ballot
returns-clause-ballot c = λ image h is core second hand there. let so = after_seconds image h.plan (planned c.voters_are_cores.ensures.voters h.plan is) h.events core second in so.ballot hand there ∙ so.kept.tried

pub returns-clause-hand : goal.returns-clause-hand
returns-clause-hand c = λ image h is core second. (after_seconds image h.plan (planned c.voters_are_cores.ensures.voters h.plan is) h.events core second).hand
