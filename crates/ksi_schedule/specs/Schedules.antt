-- Histories that follow the rules, and schedules: those within the limits of a schedule's text.
use Rattle.std.specs.Prelude.{◌<◌, ◌≤◌, ◌^◌, length}
use Rattle.ksi_schedule.specs.Plans.{IsPlan}
use Rattle.ksi_schedule.specs.Events.{History, AreEvents, AskForImprints, AskForBytes}

-- a plan and at most a million events that it allows
pub record IsSchedule (h : History) : Type 0 where
  pub plan : IsPlan h.plan
  pub events : AreEvents h.plan h.events
  pub few : length h.events ≤ 1000000

-- a plan and events that it allows, no more than are counted, each request of which is for an imprint, of bytes
pub record IsHistory (h : History) : Type 0 where
  pub plan : IsPlan h.plan
  pub events : AreEvents h.plan h.events
  pub few : length h.events < 2 ^ 64
  pub imprints : AskForImprints h.events
  pub bytes : AskForBytes h.events
