-- Each event of a list of a plan's events is one of the plan's.
use Rattle.std.proofs.Common.{ℕ, zero, suc, ◌<◌, List, [], ◌∷◌, length, get_or, arith}
use Rattle.ksi_schedule.specs.declared.event.Event.{Event}
use Rattle.ksi_schedule.specs.Plans.{PlanState}
use Rattle.ksi_schedule.specs.Events.{IsEvent, AreEvents}

pub each_event : (plan : PlanState) (events : List Event) (k : ℕ) (other : Event) → AreEvents plan events → k < length events → IsEvent plan (get_or events k other)
each_event plan [] k other are lt = absurd (omega (arith, lt))
each_event plan (event ∷ events) zero other are lt = are.0
each_event plan (event ∷ events) (suc k) other are lt = each_event plan events k other are.1 (omega (arith, lt))
