-- What the first line of an entry says in the log of a node, or its fault.
use Rattle.std.specs.Prelude.{ℕ, codes, drop, length, nat_eq, Option, Some, None, Ok, Err, if◌then◌else◌}
use Rattle.std.specs.List.{starts_with}
use Rattle.std.specs.Str.{bytes_eq}
use Rattle.ksi_schedule.specs.Pieces.{Text}
use Rattle.ksi_schedule.specs.Plans.{PlanState}
use Rattle.ksi_schedule.specs.Printed.{actor_word}
use Rattle.ksi_schedule.specs.declared.actor.Actor.{Actor}
use Rattle.ksi_schedule.specs.declared.actor.Actor.TheVariants as actors
use Rattle.ksi_corenode.specs.declared.event.CoreEvent.{CoreEvent}
use Rattle.ksi_wire.specs.declared.event.AggregatorLine.{AggregatorLine}
use Rattle.ksi_wire.specs.declared.event.AggregatorLine.TheVariants as lines
use Rattle.ksi_wire.specs.declared.fault.WireFault.TheVariants.{Word}
use Rattle.ksi_wire.specs.declared.fault.WireFault.TheVariants as faults
use Rattle.ksi_wire.specs.Asked.{core_event_of}
use Rattle.ksi_wire.specs.AskedRounds.{aggregator_line_of}
use Rattle.ksi_records.specs.Heads.{Read}
use Rattle.ksi_records.specs.declared.node.head.Given.{Given}
use Rattle.ksi_records.specs.declared.node.head.Given.TheVariants as given
use Rattle.ksi_records.specs.declared.node.head.Head.{Head}
use Rattle.ksi_records.specs.declared.node.head.Head.TheVariants as heads

-- ---- what a node took

abbrev pub to_core : (core : ℕ) → Read CoreEvent → Read Given
to_core j (Ok event) = Ok (given.ToCore j event)
to_core j (Err fault) = Err fault

-- to be asked for a signature is no event
abbrev pub to_aggregator : (aggregator : ℕ) → Read AggregatorLine → Read Given
to_aggregator k (Ok (lines.Event event)) = Ok (given.ToAggregator k event)
to_aggregator k (Ok (lines.Sign number)) = Err Word
to_aggregator k (Err fault) = Err fault

-- as the node itself reads it
abbrev pub line_to : PlanState → (me : Actor) → (line : Text) → Read Given
line_to plan (actors.Core j) line = to_core j (core_event_of plan j line)
line_to plan (actors.Aggregator k) line = to_aggregator k (aggregator_line_of plan k line)

-- the line after its beginning
abbrev pub behind : (front line : Text) → Option Text
behind front line = if starts_with nat_eq line front then Some (drop (length front) line) else None

-- after the node's word, and after a space
abbrev pub line_behind : PlanState → (me : Actor) → Option Text → Read Given
line_behind plan me None = Err faults.Actor
line_behind plan me (Some line) = line_to plan me line

abbrev pub rest_behind : PlanState → (me : Actor) → Option Text → Read Given
rest_behind plan me None = Err faults.Actor
rest_behind plan me (Some rest) = line_behind plan me (behind (codes " ") rest)

-- a line to the node
abbrev pub given_at : PlanState → (me : Actor) → Text → Read Given
given_at plan me line = rest_behind plan me (behind (actor_word me) line)

-- ---- first lines

abbrev pub as_said : Read Given → Read Head
as_said (Ok it) = Ok (heads.Said it)
as_said (Err fault) = Err fault

abbrev pub as_unsaid : Read Given → Read Head
as_unsaid (Ok it) = Ok (heads.Unsaid it)
as_unsaid (Err fault) = Err fault

abbrev pub restart_at : (me : Actor) → Text → Read Head
restart_at me word = if bytes_eq word (actor_word me) then Ok heads.Restarted else Err faults.Actor

-- a line without `restart`
abbrev pub step_at : PlanState → (me : Actor) → (line : Text) → (unsaid : Option Text) → Read Head
step_at plan me line None = as_said (given_at plan me line)
step_at plan me line (Some rest) = as_unsaid (given_at plan me rest)

abbrev pub any_head_at : PlanState → (me : Actor) → (line : Text) → (restart : Option Text) → Read Head
any_head_at plan me line None = step_at plan me line (behind (codes "unsaid ") line)
any_head_at plan me line (Some word) = restart_at me word

-- what a line says of the node, or why it says nothing
abbrev pub head_at : PlanState → (me : Actor) → (line : Text) → Read Head
head_at plan me line = any_head_at plan me line (behind (codes "restart ") line)
