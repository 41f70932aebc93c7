-- A call of a core as a value, the precondition of the call, and its row.
use Rattle.std.specs.Prelude.{ℕ, ◌≤◌, ◌<◌, ◌^◌, List}
use Rattle.ksi_aggtree.specs.Rounds.{leaf_level, highest_item}
use Rattle.ksi_synod.specs.Rows.{OfBallot}
use Rattle.ksi_corenode.specs.declared.event.CoreEvent.{CoreEvent}
use Rattle.ksi_corenode.specs.declared.event.CoreEvent.TheVariants as events
use Rattle.ksi_corenode.specs.Turns.{Turn, still}
use Rattle.ksi_corenode.specs.Rows.{submission_row, seal_row, ballot_row, receive_row, tell_row, respond_row, publish_answer}
use Rattle.ksi_corenode.specs.CoreState.{CoreState, state_of, held_by}

-- the second of an event
abbrev pub event_second : CoreEvent → ℕ
event_second (events.Submission from second item) = second
event_second (events.Seal second) = second
event_second (events.Ballot second) = second
event_second (events.Receive from second m) = second
event_second (events.Tell second) = second
event_second (events.Respond second) = second
event_second (events.Publish second) = second

-- the second is in range: at or after the start and below 2^63
abbrev pub IsAsked : CoreState → (second : ℕ) → Type 0
IsAsked core second = (core.start ≤ second) × (second < 2 ^ 63)

-- the level of an item's leaf is at most 239; a message comes from a core below 9, and the ballot it names, if any, is valid
abbrev pub MayTake : CoreState → CoreEvent → Type 0
MayTake core (events.Submission from second item) = leaf_level item ≤ highest_item
MayTake core (events.Seal second) = Unit {0}
MayTake core (events.Ballot second) = Unit {0}
MayTake core (events.Receive from second m) = (from < 9) × OfBallot m
MayTake core (events.Tell second) = Unit {0}
MayTake core (events.Respond second) = IsAsked core second
MayTake core (events.Publish second) = IsAsked core second

-- the effect of an event on its second: the turn of its row. Publish only has an answer
abbrev pub core_row : (List ℕ → List ℕ) → CoreState → CoreEvent → Turn
core_row image core (events.Submission from second item) = submission_row from item (state_of core second)
core_row image core (events.Seal second) = seal_row image (state_of core second)
core_row image core (events.Ballot second) = ballot_row core.plan second core.me (state_of core second)
core_row image core (events.Receive from second m) = receive_row core.plan second from m (state_of core second)
core_row image core (events.Tell second) = tell_row core.plan second core.me (state_of core second)
core_row image core (events.Respond second) = respond_row image (held_by core) core.start second (state_of core second)
core_row image core (events.Publish second) = still (state_of core second) (publish_answer image (held_by core) core.start second)
