-- What an event asks of a core.
use Rattle.std.specs.Prelude.{ℕ, ◌==◌, Bool, false, if◌then◌else◌, List, slice_get, Option, Some, None}
use Rattle.ksi_corenode.specs.declared.event.CoreEvent.{CoreEvent}
use Rattle.ksi_corenode.specs.declared.event.CoreEvent.TheVariants as happenings
use Rattle.ksi_schedule.specs.declared.actor.Actor.{Actor}
use Rattle.ksi_schedule.specs.declared.actor.Actor.TheVariants as actors
use Rattle.ksi_schedule.specs.declared.event.Event.{Event}
use Rattle.ksi_schedule.specs.declared.event.Event.TheVariants as events
use Rattle.ksi_world.specs.declared.message.Content.{Content}
use Rattle.ksi_world.specs.declared.message.Content.TheVariants as contents
use Rattle.ksi_world.specs.declared.message.Message.{Message}

-- what is asked of core i is asked of core j where they are one
abbrev pub where_mine : (j i : ℕ) → CoreEvent → Option CoreEvent
where_mine j i asked = if j == i then Some asked else None

-- what a message asks of core j
abbrev pub asked_by_content : (j : ℕ) → (sender addressee : Actor) (second : ℕ) → Content → Option CoreEvent
asked_by_content j (actors.Core from) (actors.Core i) t (contents.Synod m) = where_mine j i (happenings.Receive from t m)
asked_by_content j (actors.Aggregator from) (actors.Core i) t (contents.Submission item) = where_mine j i (happenings.Submission from t item)
asked_by_content j _ _ _ _ = None

abbrev pub asked_by_message : (j : ℕ) → Option Message → Option CoreEvent
asked_by_message j None = None
asked_by_message j (Some m) = asked_by_content j m.sender m.addressee m.second m.content

-- what an event asks of core j, where these messages were sent before
abbrev pub asked_of : (j : ℕ) → (wire : List Message) → Event → Option CoreEvent
asked_of j wire (events.Seal i t) = where_mine j i (happenings.Seal t)
asked_of j wire (events.Ballot i t) = where_mine j i (happenings.Ballot t)
asked_of j wire (events.Deliver number) = asked_by_message j (slice_get wire number)
asked_of j wire (events.Tell i t) = where_mine j i (happenings.Tell t)
asked_of j wire (events.Respond i t) = where_mine j i (happenings.Respond t)
asked_of j wire (events.Publish i t) = where_mine j i (happenings.Publish t)
asked_of j wire _ = None

-- whether an event restarts core j
abbrev pub is_restart_of : (j : ℕ) → Event → Bool
is_restart_of j (events.RestartCore i) = j == i
is_restart_of j _ = false
