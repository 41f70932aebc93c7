-- The step table over what was seen: the answer, the new facts and the messages of an event are those of its row, for the
-- state that is read off facts and what came since. No state is handed from one event to the next.
use Rattle.ksi_schedule.specs.Plans.{core_plan_of}
use Rattle.std.specs.Prelude.{◌≡◌, ℕ, nat_lt, if◌then◌else◌, List, [], ◌∷◌, ◌++◌, length, map, slice_get, Option, Some, None}
use Rattle.ksi_synod.specs.declared.messages.Vote.{Vote}
use Rattle.ksi_synod.specs.Rows.{is_older}
use Rattle.ksi_signature.specs.declared.answer.Answer.{Answer}
use Rattle.ksi_signature.specs.declared.answer.Answer.TheVariants as answers
use Rattle.ksi_corenode.specs.SecondState.{SecondState}
use Rattle.ksi_corenode.specs.Turns.{Turn}
use Rattle.ksi_corenode.specs.Rows.{submission_row, seal_row, ballot_row, receive_row, tell_row, respond_row, publish_answer}
use Rattle.ksi_aggregator.specs.Rows.{RoundState, RoundTurn, round_request, round_submission, round_close, round_response}
use Rattle.ksi_schedule.specs.declared.actor.Actor.{Actor}
use Rattle.ksi_schedule.specs.declared.actor.Actor.TheVariants as actors
use Rattle.ksi_schedule.specs.declared.event.Event.{Event}
use Rattle.ksi_schedule.specs.declared.event.Event.TheVariants as events
use Rattle.ksi_schedule.specs.Plans.{PlanState}
use Rattle.ksi_world.specs.declared.message.Content.{Content}
use Rattle.ksi_world.specs.declared.message.Content.TheVariants as contents
use Rattle.ksi_world.specs.declared.message.Message.{Message}
use Rattle.ksi_world.specs.Histories.{core_message, round_message, outcome_of, happens, after}
use Rattle.ksi_laws_facts.specs.Seen.{Seen, seen}
use Rattle.ksi_laws_facts.specs.Deeds.{Act, Deed, Sealed, Closed, Tried, Promised, Cast, Holds, Answered, own, facts}
use Rattle.ksi_laws_facts.specs.State.{second_seen, held_seen, round_seen, wire_seen, requests_seen}

-- NEW FACTS: what a row makes of what is kept over restarts

-- what is there now, and was not before
abbrev pub came : {A : Type 0} → (A → Act) → (old new : Option A) → List Act
came fact None (Some new) = fact new ∷ []
came fact _ _ = []

-- a greater ballot than before
abbrev pub rose : (ℕ → Act) → (old new : ℕ) → List Act
rose fact old new = if nat_lt old new then fact new ∷ [] else []

-- a vote of a greater ballot than before
abbrev pub voted_anew : (old new : Option Vote) → List Act
voted_anew old None = []
voted_anew old (Some new) = if is_older old new.ballot then Cast new ∷ [] else []

abbrev pub new_facts : (old new : SecondState) → List Act
new_facts old new = came Sealed old.sealed new.sealed ++ rose Tried old.vote.tried new.vote.tried ++ rose Promised old.vote.promised new.vote.promised
    ++ voted_anew old.vote.vote new.vote.vote ++ came Holds old.vote.held new.vote.held

abbrev pub new_round_facts : (old new : RoundState) → List Act
new_round_facts old new = came Closed old.closed new.closed ++ came Answered old.answered new.answered

-- A STEP: its answer, the facts that it adds for each actor, and the messages that it sends in order

pub record Step : Type 0 where
  pub answer : Answer
  pub facts : Actor → List Deed
  pub sends : List Message

-- it adds no fact and sends nothing
abbrev pub idle : Answer → Step
idle answer = record { answer = answer; facts = λ actor. []; sends = [] }

-- a turn of a core's second, which was this one
abbrev pub core_step : (core second : ℕ) → (old : SecondState) → Turn → Step
core_step j t old turn = record { answer = turn.answer; facts = λ actor. own actor (actors.Core j) t (new_facts old turn.after); sends = map (core_message j t) turn.sends }

-- a turn of an aggregator's round
abbrev pub round_step : PlanState → (aggregator second : ℕ) → (old : RoundState) → RoundTurn → Step
round_step plan k t old turn = record { answer = turn.answer; facts = λ actor. own actor (actors.Aggregator k) t (new_round_facts old turn.after); sends = map (round_message plan k t) turn.sends }

module _ (image : List ℕ → List ℕ) (plan : PlanState) (past : List Seen) where
  -- a row, for the second or the round that is read off what was seen
  abbrev pub by_core : (core second : ℕ) → (SecondState → Turn) → Step
  by_core j t row = core_step j t (second_seen image plan past j t) (row (second_seen image plan past j t))

  abbrev pub by_round : (aggregator second : ℕ) → (RoundState → RoundTurn) → Step
  by_round k t row = round_step plan k t (round_seen past k t) (row (round_seen past k t))

  -- a message is taken by its addressee
  abbrev pub by_message : (sender addressee : Actor) (second : ℕ) → Content → Step
  by_message (actors.Core from) (actors.Core j) t (contents.Synod m) = by_core j t (receive_row (core_plan_of plan) t from m)
  by_message (actors.Aggregator from) (actors.Core j) t (contents.Submission item) = by_core j t (submission_row from item)
  by_message (actors.Aggregator from) (actors.Aggregator k) t (contents.Submission item) = by_round k t (round_submission from item)
  by_message sender (actors.Aggregator k) t (contents.Response above) = by_round k t (round_response image above)
  by_message _ _ _ _ = idle answers.Nothing

  abbrev pub by_delivery : Option Message → Step
  by_delivery None = idle answers.Nothing
  by_delivery (Some m) = by_message m.sender m.addressee m.second m.content

  -- THE TABLE
  unfoldable pub step_by_facts : Event → Step
  step_by_facts (events.Request k t imprint name) = by_round k t (round_request (length (requests_seen past)) imprint name)
  step_by_facts (events.Close k t) = by_round k t (round_close image)
  step_by_facts (events.Seal j t) = by_core j t (seal_row image)
  step_by_facts (events.Ballot j t) = by_core j t (ballot_row (core_plan_of plan) t j)
  step_by_facts (events.Deliver number) = by_delivery (slice_get (wire_seen past) number)
  step_by_facts (events.Tell j t) = by_core j t (tell_row (core_plan_of plan) t j)
  step_by_facts (events.Respond j t) = by_core j t (respond_row image (held_seen past j) plan.start t)
  step_by_facts (events.Publish j p) = idle (publish_answer image (held_seen past j) plan.start p)
  step_by_facts (events.RestartCore j) = idle answers.Done
  step_by_facts (events.RestartAggregator k) = idle answers.Done

-- an event after these has the answer, the new facts and the messages of the table over what was seen of these
pub record IsStepByFacts (image : List ℕ → List ℕ) (plan : PlanState) (before : List Event) (event : Event) : Type 0 where
  -- the answer, and how many messages are sent
  pub outcome : (happens image plan (after image plan before) event).outcome ≡
      outcome_of (step_by_facts image plan (seen image plan before) event).answer (length (step_by_facts image plan (seen image plan before) event).sends)
  -- the messages, after all that were sent before
  pub sends : (happens image plan (after image plan before) event).world.wire ≡
      (after image plan before).wire ++ (step_by_facts image plan (seen image plan before) event).sends
  -- the facts of each actor, which have the latest first
  pub facts : (actor : Actor) → facts actor (seen image plan (before ++ event ∷ [])) ≡
      (step_by_facts image plan (seen image plan before) event).facts actor ++ facts actor (seen image plan before)
