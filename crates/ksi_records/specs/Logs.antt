-- Logs of nodes: what each took, and what it said. When a log agrees with its node's rows alone, and when a history has it.
use Rattle.std.specs.Prelude.{◌≡◌, ◌<◌, ℕ, ◌+◌, ◌==◌, Bool, true, false, List, [], ◌∷◌, ◌++◌, length, map, slice_get, Some, IfSome, if◌then◌else◌}
use Rattle.ksi_aggtree.specs.Names.{IsName}
use Rattle.ksi_signature.specs.declared.answer.Answer.{Answer}
use Rattle.ksi_signature.specs.declared.answer.Answer.TheVariants as answers
use Rattle.ksi_corenode.specs.SecondState.{SecondState}
use Rattle.ksi_corenode.specs.Turns.{Turn, still}
use Rattle.ksi_corenode.specs.Rows.{submission_row, seal_row, ballot_row, receive_row, tell_row, respond_row, publish_answer, restart_row}
use Rattle.ksi_corenode.specs.declared.event.CoreEvent.{CoreEvent}
use Rattle.ksi_corenode.specs.declared.event.CoreEvent.TheVariants as core_events
use Rattle.ksi_corenode.specs.Events as of_core
use Rattle.ksi_aggregator.specs.Rows.{RoundState, round_restarted}
use Rattle.ksi_aggregator.specs.declared.event.RoundEvent.{RoundEvent}
use Rattle.ksi_aggregator.specs.declared.event.RoundEvent.TheVariants as round_events
use Rattle.ksi_aggregator.specs.Events as of_round
use Rattle.ksi_aggregator.specs.Renamed.{answer_renamed, event_renamed}
use Rattle.ksi_schedule.specs.declared.actor.Actor.{Actor}
use Rattle.ksi_schedule.specs.declared.actor.Actor.TheVariants as actors
use Rattle.ksi_schedule.specs.declared.event.Event.{Event}
use Rattle.ksi_schedule.specs.declared.event.Event.TheVariants as events
use Rattle.ksi_schedule.specs.Plans.{PlanState, InRange, core_plan_of}
use Rattle.ksi_world.specs.declared.message.Content.TheVariants as contents
use Rattle.ksi_world.specs.declared.message.Message.{Message}
use Rattle.ksi_world.specs.Histories.{WorldState, Happening, core_message, round_message, message_of, happens}

-- what a node said: an answer, and messages in order
pub record Said : Type 0 where
  pub answer : Answer
  pub sent : List Message

-- an entry of a log: what a node took, and what it said to that; or its process was started again
pub data Deed : Type 0 where
  AtCore : (core : ℕ) → CoreEvent → Said → Deed
  AtAggregator : (aggregator : ℕ) → RoundEvent → Said → Deed
  CoreStarts : (core : ℕ) → Deed
  AggregatorStarts : (aggregator : ℕ) → Deed

-- the one statement where it is true, else the other
abbrev pub Which : Bool → Type 0 → Type 0 → Type 0
Which true P Q = P
Which false P Q = Q

-- the value at one place is another
abbrev pub changed : {A : Type 0} → (ℕ → A) → (place : ℕ) → A → ℕ → A
changed f t new u = if u == t then new else f u

module _ (image : List ℕ → List ℕ) (plan : PlanState) where
  -- ---- a node by itself, where it has these seconds, or these rounds

  -- the turn that an event makes of its second at core j
  abbrev pub core_turn : (j : ℕ) → (ℕ → SecondState) → CoreEvent → Turn
  core_turn j seconds (core_events.Submission from t item) = submission_row from item (seconds t)
  core_turn j seconds (core_events.Seal t) = seal_row image (seconds t)
  core_turn j seconds (core_events.Ballot t) = ballot_row (core_plan_of plan) t j (seconds t)
  core_turn j seconds (core_events.Receive from t m) = receive_row (core_plan_of plan) t from m (seconds t)
  core_turn j seconds (core_events.Tell t) = tell_row (core_plan_of plan) t j (seconds t)
  core_turn j seconds (core_events.Respond t) = respond_row image (λ u. (seconds u).vote.held) plan.start t (seconds t)
  core_turn j seconds (core_events.Publish t) = still (seconds t) (publish_answer image (λ u. (seconds u).vote.held) plan.start t)

  abbrev pub core_after : (j : ℕ) → (ℕ → SecondState) → CoreEvent → ℕ → SecondState
  core_after j seconds event = changed seconds (of_core.event_second event) (core_turn j seconds event).after

  abbrev pub core_says : (j : ℕ) → (ℕ → SecondState) → CoreEvent → Said
  core_says j seconds event = record {
    answer = (core_turn j seconds event).answer;
    sent = map (core_message j (of_core.event_second event)) (core_turn j seconds event).sends;
  }

  abbrev pub round_after : (ℕ → RoundState) → RoundEvent → ℕ → RoundState
  round_after rounds event = changed rounds (of_round.event_second event) (of_round.round_row image event (rounds (of_round.event_second event))).after

  abbrev pub round_says : (k : ℕ) → (ℕ → RoundState) → RoundEvent → Said
  round_says k rounds event = record {
    answer = (of_round.round_row image event (rounds (of_round.event_second event))).answer;
    sent = map (round_message plan k (of_round.event_second event)) (of_round.round_row image event (rounds (of_round.event_second event))).sends;
  }

  -- ---- a log agrees: all that the node said is what its rows say. Entries of other nodes are passed over

  abbrev pub CoreAgrees : (j : ℕ) → (ℕ → SecondState) → List Deed → Type 0
  CoreAgrees j seconds [] = Unit {0}
  CoreAgrees j seconds (AtCore i event said ∷ deeds) = Which (j == i) ((said ≡ core_says j seconds event) × CoreAgrees j (core_after j seconds event) deeds) (CoreAgrees j seconds deeds)
  CoreAgrees j seconds (AtAggregator k event said ∷ deeds) = CoreAgrees j seconds deeds
  CoreAgrees j seconds (CoreStarts i ∷ deeds) = Which (j == i) (CoreAgrees j (λ t. restart_row (seconds t)) deeds) (CoreAgrees j seconds deeds)
  CoreAgrees j seconds (AggregatorStarts k ∷ deeds) = CoreAgrees j seconds deeds

  abbrev pub AggregatorAgrees : (k : ℕ) → (ℕ → RoundState) → List Deed → Type 0
  AggregatorAgrees k rounds [] = Unit {0}
  AggregatorAgrees k rounds (AtCore j event said ∷ deeds) = AggregatorAgrees k rounds deeds
  AggregatorAgrees k rounds (AtAggregator i event said ∷ deeds) = Which (k == i) ((said ≡ round_says k rounds event) × AggregatorAgrees k (round_after rounds event) deeds) (AggregatorAgrees k rounds deeds)
  AggregatorAgrees k rounds (CoreStarts j ∷ deeds) = AggregatorAgrees k rounds deeds
  AggregatorAgrees k rounds (AggregatorStarts i ∷ deeds) = Which (k == i) (AggregatorAgrees k (λ t. round_restarted (rounds t)) deeds) (AggregatorAgrees k rounds deeds)

  abbrev pub CoresAgree : (ℕ → ℕ → SecondState) → List Deed → Type 0
  CoresAgree seconds deeds = (j : ℕ) → CoreAgrees j (seconds j) deeds

  abbrev pub AggregatorsAgree : (ℕ → ℕ → RoundState) → List Deed → Type 0
  AggregatorsAgree rounds deeds = (k : ℕ) → AggregatorAgrees k (rounds k) deeds

-- ---- the log of one node among those of all

abbrev pub log_of_core : (j : ℕ) → List Deed → List Deed
log_of_core j [] = []
log_of_core j (AtCore i event said ∷ deeds) = if j == i then AtCore i event said ∷ log_of_core j deeds else log_of_core j deeds
log_of_core j (AtAggregator k event said ∷ deeds) = log_of_core j deeds
log_of_core j (CoreStarts i ∷ deeds) = if j == i then CoreStarts i ∷ log_of_core j deeds else log_of_core j deeds
log_of_core j (AggregatorStarts k ∷ deeds) = log_of_core j deeds

abbrev pub log_of_aggregator : (k : ℕ) → List Deed → List Deed
log_of_aggregator k [] = []
log_of_aggregator k (AtCore j event said ∷ deeds) = log_of_aggregator k deeds
log_of_aggregator k (AtAggregator i event said ∷ deeds) = if k == i then AtAggregator i event said ∷ log_of_aggregator k deeds else log_of_aggregator k deeds
log_of_aggregator k (CoreStarts j ∷ deeds) = log_of_aggregator k deeds
log_of_aggregator k (AggregatorStarts i ∷ deeds) = if k == i then AggregatorStarts i ∷ log_of_aggregator k deeds else log_of_aggregator k deeds

-- ---- what was given to a node: a message that was said before, or what a host of the plan may ask

abbrev pub WasSaid : List Message → Message → Type 0
WasSaid before m = (number : ℕ) × (slice_get before number ≡ Some m)

abbrev pub IsGivenToCore : PlanState → (before : List Message) → (core : ℕ) → CoreEvent → Type 0
IsGivenToCore plan before j (core_events.Submission from t item) = WasSaid before (message_of (actors.Aggregator from) (actors.Core j) t (contents.Submission item))
IsGivenToCore plan before j (core_events.Receive from t m) = WasSaid before (message_of (actors.Core from) (actors.Core j) t (contents.Synod m))
IsGivenToCore plan before j (core_events.Seal t) = (j < plan.cores) × InRange plan t
IsGivenToCore plan before j (core_events.Ballot t) = (j < plan.cores) × InRange plan t
IsGivenToCore plan before j (core_events.Tell t) = (j < plan.cores) × InRange plan t
IsGivenToCore plan before j (core_events.Respond t) = (j < plan.cores) × InRange plan t
IsGivenToCore plan before j (core_events.Publish t) = (j < plan.cores) × InRange plan t

-- a request has the count of those that were accepted before, of all aggregators: the numbers of each aggregator may be renamed to these
abbrev pub IsGivenToAggregator : PlanState → (before : List Message) → (accepted : ℕ) → (aggregator : ℕ) → RoundEvent → Type 0
IsGivenToAggregator plan before accepted k (round_events.Request number t imprint name) = (number ≡ accepted) × (k < length plan.parents) × InRange plan t × IfSome name IsName
IsGivenToAggregator plan before accepted k (round_events.Submission from t item) = WasSaid before (message_of (actors.Aggregator from) (actors.Aggregator k) t (contents.Submission item))
IsGivenToAggregator plan before accepted k (round_events.Close t) = (k < length plan.parents) × InRange plan t
IsGivenToAggregator plan before accepted k (round_events.Response t above) = (sender : Actor) × WasSaid before (message_of sender (actors.Aggregator k) t (contents.Response above))

-- how many requests were accepted, with one more answer to a request
abbrev pub accepted_with : ℕ → Answer → ℕ
accepted_with accepted (answers.Number number) = accepted + 1
accepted_with accepted _ = accepted

abbrev pub accepted_after : ℕ → RoundEvent → Said → ℕ
accepted_after accepted (round_events.Request number t imprint name) said = accepted_with accepted said.answer
accepted_after accepted _ said = accepted

-- each entry in its place, after these messages and this number of accepted requests
abbrev pub AreGiven : PlanState → (before : List Message) → (accepted : ℕ) → List Deed → Type 0
AreGiven plan before accepted [] = Unit {0}
AreGiven plan before accepted (AtCore j event said ∷ deeds) = IsGivenToCore plan before j event × AreGiven plan (before ++ said.sent) accepted deeds
AreGiven plan before accepted (AtAggregator k event said ∷ deeds) = IsGivenToAggregator plan before accepted k event × AreGiven plan (before ++ said.sent) (accepted_after accepted event said) deeds
AreGiven plan before accepted (CoreStarts j ∷ deeds) = (j < plan.cores) × AreGiven plan before accepted deeds
AreGiven plan before accepted (AggregatorStarts k ∷ deeds) = (k < length plan.parents) × AreGiven plan before accepted deeds

-- ---- a history has the logs

-- the world says the same, at the same place
pub record Says (w : WorldState) (h : Happening) (said : Said) : Type 0 where
  pub answer : h.outcome.answer ≡ said.answer
  pub sent : h.world.wire ≡ w.wire ++ said.sent

-- the event is what was given to the node: the message by its number, or what the line asks
abbrev pub Delivers : List Message → Event → Message → Type 0
Delivers before e m = (number : ℕ) × (e ≡ events.Deliver number) × (slice_get before number ≡ Some m)

abbrev pub IsEventAtCore : (before : List Message) → Event → (core : ℕ) → CoreEvent → Type 0
IsEventAtCore before e j (core_events.Submission from t item) = Delivers before e (message_of (actors.Aggregator from) (actors.Core j) t (contents.Submission item))
IsEventAtCore before e j (core_events.Receive from t m) = Delivers before e (message_of (actors.Core from) (actors.Core j) t (contents.Synod m))
IsEventAtCore before e j (core_events.Seal t) = e ≡ events.Seal j t
IsEventAtCore before e j (core_events.Ballot t) = e ≡ events.Ballot j t
IsEventAtCore before e j (core_events.Tell t) = e ≡ events.Tell j t
IsEventAtCore before e j (core_events.Respond t) = e ≡ events.Respond j t
IsEventAtCore before e j (core_events.Publish t) = e ≡ events.Publish j t

abbrev pub IsEventAtAggregator : (before : List Message) → Event → (aggregator : ℕ) → RoundEvent → Type 0
IsEventAtAggregator before e k (round_events.Request number t imprint name) = e ≡ events.Request k t imprint name
IsEventAtAggregator before e k (round_events.Submission from t item) = Delivers before e (message_of (actors.Aggregator from) (actors.Aggregator k) t (contents.Submission item))
IsEventAtAggregator before e k (round_events.Close t) = e ≡ events.Close k t
IsEventAtAggregator before e k (round_events.Response t above) = (sender : Actor) × Delivers before e (message_of sender (actors.Aggregator k) t (contents.Response above))

module _ (image : List ℕ → List ℕ) (plan : PlanState) where
  abbrev pub IsOutcome : WorldState → Event → Deed → Type 0
  IsOutcome w e (AtCore j event said) = IsEventAtCore w.wire e j event × Says w (happens image plan w e) said
  IsOutcome w e (AtAggregator k event said) = IsEventAtAggregator w.wire e k event × Says w (happens image plan w e) said
  IsOutcome w e (CoreStarts j) = e ≡ events.RestartCore j
  IsOutcome w e (AggregatorStarts k) = e ≡ events.RestartAggregator k

  -- one event for each entry
  abbrev pub AreOutcomes : WorldState → List Deed → List Event → Type 0
  AreOutcomes w [] [] = Unit {0}
  AreOutcomes w [] (e ∷ es) = ⊥
  AreOutcomes w (deed ∷ deeds) [] = ⊥
  AreOutcomes w (deed ∷ deeds) (e ∷ es) = IsOutcome w e deed × AreOutcomes (happens image plan w e).world deeds es

-- ---- other numbers of requests: each aggregator has its own, so a name has the aggregator and its number

abbrev pub said_renamed : (name : ℕ → ℕ) → Said → Said
said_renamed name said = record { answer = answer_renamed name said.answer; sent = said.sent }

module _ (name : (aggregator number : ℕ) → ℕ) where
  abbrev pub renamed : List Deed → List Deed
  renamed [] = []
  renamed (AtCore j event said ∷ deeds) = AtCore j event said ∷ renamed deeds
  renamed (AtAggregator k event said ∷ deeds) = AtAggregator k (event_renamed (name k) event) (said_renamed (name k) said) ∷ renamed deeds
  renamed (CoreStarts j ∷ deeds) = CoreStarts j ∷ renamed deeds
  renamed (AggregatorStarts k ∷ deeds) = AggregatorStarts k ∷ renamed deeds
