-- A call of an aggregator as a value, when it may come, and its row.
use Rattle.std.specs.Prelude.{ℕ, ◌≤◌, List}
use Rattle.ksi_aggtree.specs.Rounds.{leaf_level, highest_item}
use Rattle.ksi_aggregator.specs.declared.event.RoundEvent.{RoundEvent}
use Rattle.ksi_aggregator.specs.declared.event.RoundEvent.TheVariants as events
use Rattle.ksi_aggregator.specs.Rows.{RoundState, RoundTurn, round_request, round_submission, round_close, round_response}
use Rattle.ksi_aggregator.specs.Rounds.{IsNew, HasPlace}

-- the second of an event
abbrev pub event_second : RoundEvent → ℕ
event_second (events.Request number second imprint name) = second
event_second (events.Submission from second item) = second
event_second (events.Close second) = second
event_second (events.Response second above) = second

-- the number of a request is new to the rounds; an item's leaf has a level of at most 239; a response leaves place for the
-- chain of the round
abbrev pub MayTake : (ℕ → RoundState) → RoundEvent → Type 0
MayTake rounds (events.Request number second imprint name) = IsNew number rounds
MayTake rounds (events.Submission from second item) = leaf_level item ≤ highest_item
MayTake rounds (events.Close second) = Unit {0}
MayTake rounds (events.Response second above) = HasPlace (rounds second) above

-- what an event makes of the round of its second: the turn of its row
abbrev pub round_row : (List ℕ → List ℕ) → RoundEvent → RoundState → RoundTurn
round_row image (events.Request number second imprint name) r = round_request number imprint name r
round_row image (events.Submission from second item) r = round_submission from item r
round_row image (events.Close second) r = round_close image r
round_row image (events.Response second above) r = round_response image above r
