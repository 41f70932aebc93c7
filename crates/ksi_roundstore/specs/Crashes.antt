-- The aggregator that is opened after a crash or a failure of the disk.
use Rattle.std.specs.Prelude.{◌≡◌, ◌⊎◌, ℕ, ◌==◌, if◌then◌else◌, List}
use Rattle.ksi_aggregator.specs.declared.event.RoundEvent.{RoundEvent}
use Rattle.ksi_aggregator.specs.Events.{event_second, round_row}
use Rattle.ksi_aggregator.specs.Rows.{round_restarted}
use Rattle.ksi_aggregator.specs.Rounds.{AggregatorState, rounds_of}

-- `new` is `old` after a restart
abbrev pub IsRestarted : (aggregator other : AggregatorState) → Type 0
IsRestarted aggregator other = (t : ℕ) → rounds_of other t ≡ round_restarted (rounds_of aggregator t)

-- `new` is `old` after an event and then a restart
abbrev pub IsRestartedAfter : (List ℕ → List ℕ) → (aggregator : AggregatorState) → RoundEvent → (other : AggregatorState) → Type 0
IsRestartedAfter image aggregator event other =
    (t : ℕ) → rounds_of other t ≡ round_restarted (if t == event_second event then (round_row image event (rounds_of aggregator (event_second event))).after else rounds_of aggregator t)

-- with or without the event
abbrev pub IsRestartedEither : (List ℕ → List ℕ) → (aggregator : AggregatorState) → RoundEvent → (other : AggregatorState) → Type 0
IsRestartedEither image aggregator event other = IsRestarted aggregator other ⊎ IsRestartedAfter image aggregator event other
