-- An aggregator as a node in general (`specs/Restarts` of `ksi_disk`): its state is its rounds.
use Rattle.std.specs.Prelude.{◌≡◌, ◌<◌, ◌^◌, ℕ, ◌==◌, if◌then◌else◌, List}
use Rattle.ksi_aggregator.specs.declared.event.RoundEvent.{RoundEvent}
use Rattle.ksi_aggregator.specs.Events.{event_second, MayTake, round_row}
use Rattle.ksi_aggregator.specs.Rounds.{AggregatorState, rounds_of}
use Rattle.ksi_aggregator.specs.Rows.{RoundState, round_restarted}
use Rattle.ksi_disk.specs.Restarts.{IsNode}
use Rattle.ksi_aggregator.specs.Restored.{HasFacts, IsOfFacts}
use Rattle.ksi_roundstore.specs.Takes.{fact_added}

abbrev pub Rounds : Type 0
Rounds = ℕ → RoundState

-- the rounds after an event, and after a restart
abbrev pub rounds_after : (List ℕ → List ℕ) → Rounds → RoundEvent → Rounds
rounds_after image rounds event t = if t == event_second event then (round_row image event (rounds (event_second event))).after else rounds t

abbrev pub rounds_restarted : Rounds → Rounds
rounds_restarted rounds t = round_restarted (rounds t)

abbrev pub HasRounds : AggregatorState → Rounds → Type 0
HasRounds aggregator rounds = (t : ℕ) → rounds_of aggregator t ≡ rounds t

abbrev pub MayCome : AggregatorState → RoundEvent → Type 0
MayCome aggregator event = MayTake (rounds_of aggregator) event × (event_second event < 2 ^ 63)

abbrev pub TookRow : (List ℕ → List ℕ) → (old : AggregatorState) → RoundEvent → (new : AggregatorState) → Type 0
TookRow image old event new = HasRounds new (rounds_after image (rounds_of old) event)

-- what an aggregator of this number owes as a node
abbrev pub IsAggregatorNode : (List ℕ → List ℕ) → (me : ℕ) → Type 0
IsAggregatorNode image me = IsNode (rounds_after image) rounds_restarted HasRounds HasFacts MayCome (TookRow image) (fact_added image) (IsOfFacts me)
