-- Messages of a history as lines, and what their addressees read in them.
use Rattle.std.specs.Prelude.{◌≡◌, ◌<◌, ◌≤◌, ℕ, length, Ok}
use Rattle.ksi_schedule.specs.Pieces.{Text}
use Rattle.ksi_schedule.specs.Plans.{PlanState, ReachesCore}
use Rattle.ksi_schedule.specs.Printed.{line_of}
use Rattle.ksi_schedule.specs.declared.actor.Actor.{Actor}
use Rattle.ksi_schedule.specs.declared.actor.Actor.TheVariants as actors
use Rattle.ksi_corenode.specs.declared.event.CoreEvent.TheVariants as core_events
use Rattle.ksi_aggregator.specs.declared.event.RoundEvent.TheVariants as round_events
use Rattle.ksi_world.specs.declared.message.Content.{Content}
use Rattle.ksi_world.specs.declared.message.Content.TheVariants as contents
use Rattle.ksi_wire.specs.declared.event.AggregatorLine.TheVariants as lines
use Rattle.ksi_wire.specs.Asked.{core_event_of}
use Rattle.ksi_wire.specs.AskedRounds.{aggregator_line_of}
use Rattle.ksi_records.specs.Texts.{content_words}

-- the line that its addressee is given
abbrev pub content_line : (sender : Actor) (second : ℕ) → Content → Text
content_line sender second content = line_of (content_words sender second content)

-- the addressee reads the line of a message as this message: a vote from a core to a core, an item from an aggregator, or a
-- response to an aggregator. There is no other message
abbrev pub IsTakenAs : PlanState → (sender addressee : Actor) (second : ℕ) → Content → Type 0
IsTakenAs plan (actors.Core from) (actors.Core to) second (contents.Synod m) =
    core_event_of plan to (content_line (actors.Core from) second (contents.Synod m)) ≡ Ok (core_events.Receive from second m)
IsTakenAs plan (actors.Aggregator from) (actors.Core to) second (contents.Submission item) =
    core_event_of plan to (content_line (actors.Aggregator from) second (contents.Submission item)) ≡ Ok (core_events.Submission from second item)
IsTakenAs plan (actors.Aggregator from) (actors.Aggregator to) second (contents.Submission item) =
    aggregator_line_of plan to (content_line (actors.Aggregator from) second (contents.Submission item)) ≡ Ok (lines.Event (round_events.Submission from second item))
IsTakenAs plan sender (actors.Aggregator to) second (contents.Response above) =
    aggregator_line_of plan to (content_line sender second (contents.Response above)) ≡ Ok (lines.Event (round_events.Response second above))
IsTakenAs plan _ _ second _ = ⊥

-- a response has at most seven chains: no line has eight
abbrev pub FitsLine : Content → Type 0
FitsLine (contents.Synod m) = Unit {0}
FitsLine (contents.Submission item) = Unit {0}
FitsLine (contents.Response above) = length above.chains ≤ 7

-- at most seven aggregators are above one another
abbrev pub HasSeven : PlanState → Type 0
HasSeven plan = (k : ℕ) → k < length plan.parents → ReachesCore plan 7 (actors.Aggregator k)
