-- What a run's events have to be, so that everything that holds over histories holds of its nodes.
use Rattle.std.specs.Prelude.{◌<◌, ◌^◌, List, length}
use Rattle.ksi_schedule.specs.Events.{AskForBytes, AskForImprints, History}
use Rattle.ksi_schedule.specs.Plans.{PlanState}
use Rattle.ksi_schedule.specs.declared.event.Event.{Event}

-- each request is for an imprint, of bytes, and there are fewer events than are counted
pub record AskForFew (events : List Event) : Type 0 where
  pub imprints : AskForImprints events
  pub bytes : AskForBytes events
  pub few : length events < 2 ^ 64

-- the history of a plan and these events
abbrev pub history_of : PlanState → List Event → History
history_of plan events = record { plan = plan; events = events }
