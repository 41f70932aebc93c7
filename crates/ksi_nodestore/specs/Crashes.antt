-- The core that is opened after a crash or a failure of the disk.
use Rattle.std.specs.Prelude.{◌≡◌, ◌⊎◌, ℕ, ◌==◌, if◌then◌else◌, List}
use Rattle.ksi_corenode.specs.declared.event.CoreEvent.{CoreEvent}
use Rattle.ksi_corenode.specs.CoreState.{CoreState, state_of}
use Rattle.ksi_corenode.specs.Events.{core_row, event_second}
use Rattle.ksi_corenode.specs.Rows.{restart_row}

-- `new` is `old` after a restart
abbrev pub IsRestarted : (core other : CoreState) → Type 0
IsRestarted core other = (t : ℕ) → state_of other t ≡ restart_row (state_of core t)

-- `new` is `old` after an event and then a restart
abbrev pub IsRestartedAfter : (List ℕ → List ℕ) → (core : CoreState) → CoreEvent → (other : CoreState) → Type 0
IsRestartedAfter image core event other = (t : ℕ) → state_of other t ≡ restart_row (if t == event_second event then (core_row image core event).after else state_of core t)

-- with or without the event
abbrev pub IsRestartedEither : (List ℕ → List ℕ) → (core : CoreState) → CoreEvent → (other : CoreState) → Type 0
IsRestartedEither image core event other = IsRestarted core other ⊎ IsRestartedAfter image core event other
