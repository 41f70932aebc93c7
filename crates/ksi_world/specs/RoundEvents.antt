-- What an event asks of an aggregator.
use Rattle.std.specs.Prelude.{ℕ, ◌==◌, Bool, false, if◌then◌else◌, List, length, slice_get, Option, Some, None}
use Rattle.ksi_aggregator.specs.declared.event.RoundEvent.{RoundEvent}
use Rattle.ksi_aggregator.specs.declared.event.RoundEvent.TheVariants as happenings
use Rattle.ksi_aggregator.specs.Events.{event_second, round_row}
use Rattle.ksi_aggregator.specs.Rows.{RoundTurn}
use Rattle.ksi_schedule.specs.declared.actor.Actor.{Actor}
use Rattle.ksi_schedule.specs.declared.actor.Actor.TheVariants as actors
use Rattle.ksi_schedule.specs.declared.event.Event.{Event}
use Rattle.ksi_schedule.specs.declared.event.Event.TheVariants as events
use Rattle.ksi_world.specs.declared.message.Content.{Content}
use Rattle.ksi_world.specs.declared.message.Content.TheVariants as contents
use Rattle.ksi_world.specs.declared.message.Message.{Message}
use Rattle.ksi_world.specs.Histories.{WorldState}

-- what is asked of aggregator i is asked of aggregator k where they are one
abbrev pub where_this : (k i : ℕ) → RoundEvent → Option RoundEvent
where_this k i asked = if k == i then Some asked else None

-- what a message asks of aggregator k
abbrev pub round_asked_by_content : (k : ℕ) → (sender addressee : Actor) (second : ℕ) → Content → Option RoundEvent
round_asked_by_content k (actors.Aggregator from) (actors.Aggregator i) t (contents.Submission item) = where_this k i (happenings.Submission from t item)
round_asked_by_content k sender (actors.Aggregator i) t (contents.Response above) = where_this k i (happenings.Response t above)
round_asked_by_content k _ _ _ _ = None

abbrev pub round_asked_by_message : (k : ℕ) → Option Message → Option RoundEvent
round_asked_by_message k None = None
round_asked_by_message k (Some m) = round_asked_by_content k m.sender m.addressee m.second m.content

-- what an event asks of aggregator k in a world: a request has the count of the requests that were accepted before
abbrev pub round_asked_of : (k : ℕ) → WorldState → Event → Option RoundEvent
round_asked_of k w (events.Request i t imprint name) = where_this k i (happenings.Request (length w.requests) t imprint name)
round_asked_of k w (events.Close i t) = where_this k i (happenings.Close t)
round_asked_of k w (events.Deliver number) = round_asked_by_message k (slice_get w.wire number)
round_asked_of k w _ = None

-- whether an event restarts aggregator k
abbrev pub is_restart_of_aggregator : (k : ℕ) → Event → Bool
is_restart_of_aggregator k (events.RestartAggregator i) = k == i
is_restart_of_aggregator k _ = false

-- the turn that an event makes of a round of aggregator k
abbrev pub round_turn : (List ℕ → List ℕ) → WorldState → (aggregator : ℕ) → RoundEvent → RoundTurn
round_turn image w k event = round_row image event (w.rounds k (event_second event))
