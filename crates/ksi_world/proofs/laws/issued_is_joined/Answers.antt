use Rattle.ksi_world.proofs.IssuedJoined.{issued_joined}
use Rattle.ksi_world.proofs.laws.issued_is_joined.Goals as goal

pub returns : goal.returns
returns c = λ image h is are. issued_joined image h.plan is (c.one_round.ensures.level image) (c.one_chain.ensures.climbs image) c.steps_agree.ensures.agreement h.events are
