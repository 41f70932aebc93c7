-- How many messages and requests there were before each step, as the code keeps them.
use Rattle.std.specs.Prelude.{ℕ, List, [], ◌∷◌, length}
use Rattle.ksi_schedule.specs.Plans.{PlanState}
use Rattle.ksi_schedule.specs.declared.event.Event.{Event}
use Rattle.ksi_world.specs.Histories.{WorldState, happens}
use Rattle.ksi_records.specs.declared.mark.Mark.{Mark}

abbrev pub mark_of : WorldState → Mark
mark_of w = record { messages = length w.wire; requests = length w.requests }

-- before each of these events, and after the last
abbrev pub marks_from : (List ℕ → List ℕ) → PlanState → WorldState → List Event → List Mark
marks_from image plan w [] = mark_of w ∷ []
marks_from image plan w (e ∷ es) = mark_of w ∷ marks_from image plan (happens image plan w e).world es
