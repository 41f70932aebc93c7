use Rattle.ksi_laws_succession.proofs.Examples.{events_are, plan_is, third_unasked, zero_is_held}
use Rattle.ksi_laws_succession.proofs.laws.a_minority_is_not_enough.Goals as goal

pub returns : goal.returns
returns c = record { plan = plan_is; events = events_are; unasked = third_unasked; held = zero_is_held }
