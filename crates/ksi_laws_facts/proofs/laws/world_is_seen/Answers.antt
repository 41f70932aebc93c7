use Rattle.ksi_laws_facts.proofs.Voters.{planned}
use Rattle.ksi_laws_facts.proofs.ReadOff.{world_is}
use Rattle.ksi_laws_facts.proofs.laws.world_is_seen.Goals as goal

pub returns : goal.returns
returns c = λ image plan is events. world_is image plan (planned c.voters_are_cores.ensures.voters plan is) events
