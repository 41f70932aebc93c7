use Rattle.ksi_laws_facts.proofs.Voters.{planned}
use Rattle.ksi_laws_facts.proofs.Stepping.{by_facts}
use Rattle.ksi_laws_facts.proofs.laws.step_is_by_facts.Goals as goal

pub returns : goal.returns
returns c = λ image plan is before event. by_facts image plan (planned c.voters_are_cores.ensures.voters plan is) before event
