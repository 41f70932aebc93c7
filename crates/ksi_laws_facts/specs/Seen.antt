-- What can be seen of a history from outside. Lists of what was seen have the latest first.
use Rattle.std.specs.Prelude.{ℕ, List, [], ◌∷◌, length, drop, slice_get, Option, None}
use Rattle.ksi_signature.specs.declared.answer.Answer.{Answer}
use Rattle.ksi_schedule.specs.declared.event.Event.{Event}
use Rattle.ksi_schedule.specs.declared.event.Event.TheVariants as events
use Rattle.ksi_schedule.specs.Plans.{PlanState}
use Rattle.ksi_world.specs.declared.message.Message.{Message}
use Rattle.ksi_world.specs.Histories.{WorldState, happens, first_world}

-- an event, the message that it takes from the wire, its answer, and the messages that it puts there
pub record Seen : Type 0 where
  pub event : Event
  pub taken : Option Message
  pub answer : Answer
  pub sent : List Message

-- the message that an event takes from the wire
abbrev pub taken_from : (wire : List Message) → Event → Option Message
taken_from wire (events.Deliver number) = slice_get wire number
taken_from wire _ = None

module _ (image : List ℕ → List ℕ) (plan : PlanState) where
  -- an event in a world: of the world only the wire and the outcome are seen
  abbrev pub seen_of : WorldState → Event → Seen
  seen_of w e = record {
    event = e;
    taken = taken_from w.wire e;
    answer = (happens image plan w e).outcome.answer;
    sent = drop (length w.wire) (happens image plan w e).world.wire;
  }

  -- these events one after the other, after those seen before
  abbrev pub seen_from : WorldState → (past : List Seen) → List Event → List Seen
  seen_from w past [] = past
  seen_from w past (e ∷ es) = seen_from (happens image plan w e).world (seen_of w e ∷ past) es

  -- all that is seen of these events
  unfoldable pub seen : List Event → List Seen
  seen es = seen_from (first_world plan) [] es
