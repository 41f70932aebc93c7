-- What the nodes and the wire of a world are, and what one turn makes of them.
use Rattle.ksi_schedule.specs.Plans.{core_plan_of}
use Rattle.std.specs.Prelude.{◌≡◌, ℕ, Bool, true, false, ◌<◌, ◌≤◌, ◌==◌, if◌then◌else◌, List, ◌++◌, length, map, slice_get, slice_set, Some}
use Rattle.ksi_corenode.specs.SecondState.{SecondState}
use Rattle.ksi_corenode.specs.Turns.{Turn, still}
use Rattle.ksi_corenode.specs.declared.event.CoreEvent.{CoreEvent}
use Rattle.ksi_corenode.specs.declared.event.CoreEvent.TheVariants as happenings
use Rattle.ksi_corenode.specs.Events.{MayTake}
use Rattle.ksi_corenode.specs.Rows.{submission_row, seal_row, ballot_row, receive_row, tell_row, respond_row, publish_answer}
use Rattle.ksi_corenode.specs.CoreState.{CoreState, state_of}
use Rattle.ksi_aggregator.specs.Rows.{RoundState, RoundTurn, round_still, round_response}
use Rattle.ksi_aggregator.specs.Rounds.{AggregatorState, rounds_of, HasPlace, IsTurn}
use Rattle.ksi_schedule.specs.declared.event.Event.{Event}
use Rattle.ksi_world.specs.declared.outcome.Asked.{Asked}
use Rattle.ksi_world.specs.declared.outcome.Outcome.{Outcome}
use Rattle.ksi_world.specs.declared.message.Message.{Message}
use Rattle.ksi_aggregator.specs.declared.step.Step.{Step}
use Rattle.ksi_signature.specs.declared.answer.Answer.TheVariants as answers
use Rattle.ksi_world.specs.declared.message.Content.{Content}
use Rattle.ksi_world.specs.declared.message.Content.TheVariants as contents
use Rattle.ksi_schedule.specs.declared.actor.Actor.{Actor}
use Rattle.ksi_schedule.specs.Plans.{PlanState, IsPlan, InRange}
use Rattle.ksi_world.specs.Histories.{WorldState, held_in, core_message, round_message, outcome_of, at_core, taken, happens, after}
use Rattle.ksi_schedule.specs.Events.{IsEvent, AreEvents}
use Rattle.ksi_world.specs.Sound.{IsSent, IsSound}

-- all nodes, the wire, the accepted requests and what was published
pub record NodesState : Type 0 where
  pub cores : List CoreState
  pub aggregators : List AggregatorState
  pub wire : List Message
  pub requests : List Asked
  pub published : List (ℕ × List ℕ)

-- core j of the plan, which keeps this for each second
pub record IsCore (plan : PlanState) (seconds : ℕ → SecondState) (j : ℕ) (core : CoreState) : Type 0 where
  pub me : core.me ≡ j
  pub core_plan : core.plan ≡ core_plan_of plan
  pub start : core.start ≡ plan.start
  pub keeps : (t : ℕ) → state_of core t ≡ seconds t

pub record AreCores (plan : PlanState) (seconds : ℕ → ℕ → SecondState) (cores : List CoreState) : Type 0 where
  pub many : length cores ≡ plan.cores
  pub each : (j : ℕ) (core : CoreState) → slice_get cores j ≡ Some core → IsCore plan (seconds j) j core

-- aggregator k, which keeps this for each second
pub record IsAggregator (rounds : ℕ → RoundState) (k : ℕ) (aggregator : AggregatorState) : Type 0 where
  pub me : aggregator.me ≡ k
  pub keeps : (t : ℕ) → rounds_of aggregator t ≡ rounds t

pub record AreAggregators (plan : PlanState) (rounds : ℕ → ℕ → RoundState) (aggregators : List AggregatorState) : Type 0 where
  pub many : length aggregators ≡ length plan.parents
  pub each : (k : ℕ) (aggregator : AggregatorState) → slice_get aggregators k ≡ Some aggregator → IsAggregator (rounds k) k aggregator

-- the nodes are those of the world
pub record Fits (plan : PlanState) (w : WorldState) (nodes : NodesState) : Type 0 where
  pub cores : AreCores plan w.seconds nodes.cores
  pub aggregators : AreAggregators plan w.rounds nodes.aggregators
  pub wire : nodes.wire ≡ w.wire
  pub requests : nodes.requests ≡ w.requests
  pub published : nodes.published ≡ w.published

-- A TURN

-- aggregators are to be answered
abbrev pub is_respond : CoreEvent → Bool
is_respond (happenings.Submission from t item) = false
is_respond (happenings.Seal t) = false
is_respond (happenings.Ballot t) = false
is_respond (happenings.Receive from t m) = false
is_respond (happenings.Tell t) = false
is_respond (happenings.Respond t) = true
is_respond (happenings.Publish t) = false

-- the turn that an event makes of a second of core j
abbrev pub core_turn : (List ℕ → List ℕ) → PlanState → WorldState → (core : ℕ) → CoreEvent → Turn
core_turn image plan w j (happenings.Submission from t item) = submission_row from item (w.seconds j t)
core_turn image plan w j (happenings.Seal t) = seal_row image (w.seconds j t)
core_turn image plan w j (happenings.Ballot t) = ballot_row (core_plan_of plan) t j (w.seconds j t)
core_turn image plan w j (happenings.Receive from t m) = receive_row (core_plan_of plan) t from m (w.seconds j t)
core_turn image plan w j (happenings.Tell t) = tell_row (core_plan_of plan) t j (w.seconds j t)
core_turn image plan w j (happenings.Respond t) = respond_row image (held_in w j) plan.start t (w.seconds j t)
core_turn image plan w j (happenings.Publish t) = still (w.seconds j t) (publish_answer image (held_in w j) plan.start t)

-- core j took a turn of the second, which is this function of the core
pub record CoreStep (row : CoreState → Turn) (j second : ℕ) (cores cores' : List CoreState) (wire wire' : List Message) (outcome : Outcome) : Type 0 where
  pub old : CoreState
  pub new : CoreState
  pub at : slice_get cores j ≡ Some old
  pub after : cores' ≡ slice_set cores j new
  pub me : new.me ≡ old.me
  pub plan : new.plan ≡ old.plan
  pub start : new.start ≡ old.start
  pub seconds : (t : ℕ) → state_of new t ≡ (if t == second then (row old).after else state_of old t)
  pub posted : wire' ≡ wire ++ map (core_message j second) (row old).sends
  pub told : outcome ≡ outcome_of (row old).answer (length (row old).sends)

-- aggregator k took a turn of the second, which is this function of its round
pub record RoundStep (row : RoundState → RoundTurn) (plan : PlanState) (k second : ℕ) (aggregators aggregators' : List AggregatorState) (wire wire' : List Message) (outcome : Outcome) : Type 0 where
  pub old : AggregatorState
  pub new : AggregatorState
  pub at : slice_get aggregators k ≡ Some old
  pub after : aggregators' ≡ slice_set aggregators k new
  pub me : new.me ≡ old.me
  pub rounds : (t : ℕ) → rounds_of new t ≡ (if t == second then (row (rounds_of old second)).after else rounds_of old t)
  pub posted : wire' ≡ wire ++ map (round_message plan k second) (row (rounds_of old second)).sends
  pub told : outcome ≡ outcome_of (row (rounds_of old second)).answer (length (row (rounds_of old second)).sends)

-- core j took a step of every second, which is this function of the second, and nothing is sent
pub record CoreRestart (row : SecondState → SecondState) (j : ℕ) (cores cores' : List CoreState) : Type 0 where
  pub old : CoreState
  pub new : CoreState
  pub at : slice_get cores j ≡ Some old
  pub after : cores' ≡ slice_set cores j new
  pub me : new.me ≡ old.me
  pub plan : new.plan ≡ old.plan
  pub start : new.start ≡ old.start
  pub seconds : (t : ℕ) → state_of new t ≡ row (state_of old t)

-- aggregator k took a step of every second, which is this function of the round, and nothing is sent
pub record RoundRestart (row : RoundState → RoundState) (k : ℕ) (aggregators aggregators' : List AggregatorState) : Type 0 where
  pub old : AggregatorState
  pub new : AggregatorState
  pub at : slice_get aggregators k ≡ Some old
  pub after : aggregators' ≡ slice_set aggregators k new
  pub me : new.me ≡ old.me
  pub rounds : (t : ℕ) → rounds_of new t ≡ row (rounds_of old t)

-- whatever the cores kept, they keep
abbrev pub CoresStay : List CoreState → List CoreState → Type 0
CoresStay cores cores' = (plan : PlanState) (seconds : ℕ → ℕ → SecondState) → AreCores plan seconds cores → AreCores plan seconds cores'

abbrev pub AggregatorsStay : List AggregatorState → List AggregatorState → Type 0
AggregatorsStay aggregators aggregators' = (plan : PlanState) (rounds : ℕ → ℕ → RoundState) → AreAggregators plan rounds aggregators → AreAggregators plan rounds aggregators'

-- each core that is there is so
abbrev pub EachCore : (CoreState → Type 0) → List CoreState → Type 0
EachCore P cores = (j : ℕ) (core : CoreState) → slice_get cores j ≡ Some core → P core

-- each aggregator that is there is so
abbrev pub EachAggregator : (AggregatorState → Type 0) → List AggregatorState → Type 0
EachAggregator P aggregators = (k : ℕ) (aggregator : AggregatorState) → slice_get aggregators k ≡ Some aggregator → P aggregator

-- A RESPONSE

-- what a response makes of a round
abbrev pub response_row : (List ℕ → List ℕ) → Content → RoundState → RoundTurn
response_row image (contents.Response above) r = round_response image above r
response_row image (contents.Synod m) r = round_still r answers.Nothing
response_row image (contents.Submission item) r = round_still r answers.Nothing

-- the aggregator may take the response: its chains leave place for the round's own, and it goes on to at most each
-- aggregator of the plan
abbrev pub CanTake : (List ℕ → List ℕ) → PlanState → (k second : ℕ) → List AggregatorState → Content → Type 0
CanTake image plan k second aggregators (contents.Response above) = (a : AggregatorState) → slice_get aggregators k ≡ Some a →
    HasPlace (rounds_of a second) above × (length (round_response image above (rounds_of a second)).sends ≤ length plan.parents)
CanTake image plan k second aggregators _ = ⊥

-- aggregator k made this step, which is this function of its round
pub record RoundMove (row : RoundState → RoundTurn) (k second : ℕ) (aggregators aggregators' : List AggregatorState) (step : Step) : Type 0 where
  pub old : AggregatorState
  pub new : AggregatorState
  pub at : slice_get aggregators k ≡ Some old
  pub after : aggregators' ≡ slice_set aggregators k new
  pub me : new.me ≡ old.me
  pub turn : IsTurn (rounds_of old) (rounds_of new) second (row (rounds_of old second)) step

-- AN EVENT

-- the nodes are those of a world of the plan that is as it always is, and the event may happen
pub record IsReady (plan : PlanState) (event : Event) (nodes : NodesState) : Type 0 where
  pub world : WorldState
  pub plan_is : IsPlan plan
  pub sound : IsSound plan world
  pub fits : Fits plan world nodes
  pub event_is : IsEvent plan event

-- the same of an event of core j, which may take it
pub record IsReadyCore (plan : PlanState) (j : ℕ) (event : CoreEvent) (nodes : NodesState) : Type 0 where
  pub world : WorldState
  pub plan_is : IsPlan plan
  pub fits : Fits plan world nodes
  pub there : j < plan.cores
  pub may : (core : CoreState) → core.start ≡ plan.start → MayTake core event

-- whatever world the nodes were of, they are of what core j makes of it by its turn, and so is the outcome
abbrev pub TookTurn : (List ℕ → List ℕ) → PlanState → (core second : ℕ) → CoreEvent → (nodes nodes' : NodesState) → Outcome → Type 0
TookTurn image plan j second event nodes nodes' outcome = (w : WorldState) → Fits plan w nodes →
    Fits plan (at_core w j second (core_turn image plan w j event)).world nodes' × (outcome ≡ (at_core w j second (core_turn image plan w j event)).outcome)

-- whatever world the nodes were of, they are of what the event makes of it, and so is the outcome
abbrev pub Happened : (List ℕ → List ℕ) → PlanState → Event → (nodes nodes' : NodesState) → Outcome → Type 0
Happened image plan event nodes nodes' outcome = (w : WorldState) → Fits plan w nodes →
    Fits plan (happens image plan w event).world nodes' × (outcome ≡ (happens image plan w event).outcome)

-- the same of a message that is delivered
pub record IsTaken (plan : PlanState) (sender addressee : Actor) (second : ℕ) (content : Content) (nodes : NodesState) : Type 0 where
  pub world : WorldState
  pub plan_is : IsPlan plan
  pub sound : IsSound plan world
  pub fits : Fits plan world nodes
  pub range : InRange plan second
  pub sent : IsSent plan sender addressee content

abbrev pub WasTaken : (List ℕ → List ℕ) → PlanState → (sender addressee : Actor) (second : ℕ) → Content → (nodes nodes' : NodesState) → Outcome → Type 0
WasTaken image plan sender addressee second content nodes nodes' outcome = (w : WorldState) → Fits plan w nodes →
    Fits plan (taken image plan w sender addressee second content).world nodes' × (outcome ≡ (taken image plan w sender addressee second content).outcome)

-- whatever world the nodes were of, they are of it still
abbrev pub StoodStill : PlanState → (nodes nodes' : NodesState) → Type 0
StoodStill plan nodes nodes' = (w : WorldState) → Fits plan w nodes → Fits plan w nodes'

-- a plan and its nodes after these events
pub record IsWorld (image : List ℕ → List ℕ) (plan : PlanState) (events : List Event) (nodes : NodesState) : Type 0 where
  pub plan_is : IsPlan plan
  pub are : AreEvents plan events
  pub sound : IsSound plan (after image plan events)
  pub fits : Fits plan (after image plan events) nodes
