-- Histories: what every actor keeps, and what was ever sent, after any list of events.
use Rattle.ksi_schedule.specs.Plans.{core_plan_of}
use Rattle.std.specs.Prelude.{ℕ, ◌&&◌, ◌==◌, nat_lt, if◌then◌else◌, List, [], ◌∷◌, ◌++◌, length, map, slice_get, Option, Some, None}
use Rattle.ksi_signature.specs.declared.answer.Answer.{Answer}
use Rattle.ksi_signature.specs.declared.answer.Answer.TheVariants as answers
use Rattle.ksi_corenode.specs.declared.step.Send as core_step
use Rattle.ksi_corenode.specs.declared.step.Send.TheVariants as core_sends
use Rattle.ksi_corenode.specs.SecondState.{SecondState, fresh_second}
use Rattle.ksi_corenode.specs.Turns.{Turn}
use Rattle.ksi_calendar.specs.Covered.{Roots}
use Rattle.ksi_corenode.specs.Rows.{submission_row, seal_row, ballot_row, receive_row, tell_row, respond_row, publish_answer, restart_row}
use Rattle.ksi_aggregator.specs.declared.step.Send as round_step
use Rattle.ksi_aggregator.specs.declared.step.Send.TheVariants as round_sends
use Rattle.ksi_aggregator.specs.Rows.{RoundState, RoundTurn, fresh_round, round_request, round_submission, round_close, round_response, round_restarted}
use Rattle.ksi_schedule.specs.declared.actor.Actor.{Actor}
use Rattle.ksi_schedule.specs.declared.actor.Actor.TheVariants as actors
use Rattle.ksi_schedule.specs.declared.event.Event.{Event}
use Rattle.ksi_schedule.specs.declared.event.Event.TheVariants as events
use Rattle.ksi_world.specs.declared.outcome.Asked.{Asked}
use Rattle.ksi_world.specs.declared.outcome.Outcome.{Outcome}
use Rattle.ksi_world.specs.declared.message.Content.{Content}
use Rattle.ksi_world.specs.declared.message.Content.TheVariants as contents
use Rattle.ksi_world.specs.declared.message.Message.{Message}
use Rattle.ksi_aggtree.specs.Rounds.{with_name}
use Rattle.ksi_schedule.specs.Plans.{PlanState, parent_of, name_of}
use Rattle.ksi_schedule.specs.Events.{History}

-- what every actor keeps for each second, all messages ever sent, the accepted requests in order, and the seconds that
-- were published, rising, each with its root
pub record WorldState : Type 0 where
  pub seconds : (core second : ℕ) → SecondState
  pub rounds : (aggregator second : ℕ) → RoundState
  pub wire : List Message
  pub requests : List Asked
  pub published : List (ℕ × List ℕ)

-- what a core holds for each second
abbrev pub held_in : WorldState → (core : ℕ) → Roots
held_in w core second = (w.seconds core second).vote.held

-- the function with one value changed
abbrev pub put_at : {A : Type 0} → (ℕ → ℕ → A) → (i t : ℕ) → A → ℕ → ℕ → A
put_at f i t new j u = if (j == i) && (u == t) then new else f j u

-- WHAT IS SENT

abbrev pub message_of : (sender addressee : Actor) (second : ℕ) → Content → Message
message_of sender addressee second content = record { sender = sender; addressee = addressee; second = second; content = content }

-- the message of a core's send
abbrev pub core_message : (core second : ℕ) → core_step.Send → Message
core_message j t (core_sends.Synod to m) = message_of (actors.Core j) (actors.Core to) t (contents.Synod m)
core_message j t (core_sends.Response to above) = message_of (actors.Core j) (actors.Aggregator to) t (contents.Response above)

-- the message of an aggregator's send: a submission goes to its parent, with the aggregator's name where it has one
abbrev pub round_message : PlanState → (aggregator second : ℕ) → round_step.Send → Message
round_message plan k t (round_sends.Submission item) = message_of (actors.Aggregator k) (parent_of plan k) t (contents.Submission (with_name (name_of plan k) item))
round_message plan k t (round_sends.Response to above) = message_of (actors.Aggregator k) (actors.Aggregator to) t (contents.Response above)

-- WHAT AN EVENT MAKES OF A WORLD, AND ITS OUTCOME

pub record Happening : Type 0 where
  pub world : WorldState
  pub outcome : Outcome

abbrev pub outcome_of : Answer → (sent : ℕ) → Outcome
outcome_of answer sent = record { answer = answer; sent = sent }

-- nothing changes
abbrev pub unchanged : WorldState → Answer → Happening
unchanged w answer = record { world = w; outcome = outcome_of answer 0 }

-- a turn of a core's second
abbrev pub at_core : WorldState → (core second : ℕ) → Turn → Happening
at_core w j t turn = record {
  world = record w { seconds = put_at w.seconds j t turn.after; wire = w.wire ++ map (core_message j t) turn.sends };
  outcome = outcome_of turn.answer (length turn.sends);
}

-- a turn of an aggregator's round
abbrev pub at_round : PlanState → WorldState → (aggregator second : ℕ) → RoundTurn → Happening
at_round plan w k t turn = record {
  world = record w { rounds = put_at w.rounds k t turn.after; wire = w.wire ++ map (round_message plan k t) turn.sends };
  outcome = outcome_of turn.answer (length turn.sends);
}

-- a request that got a number is accepted
abbrev pub asked_with : List Asked → Asked → Answer → List Asked
asked_with requests new (answers.Number n) = requests ++ new ∷ []
asked_with requests new _ = requests

abbrev pub accepted_where : Asked → Happening → Happening
accepted_where new h = record h { world = record h.world { requests = asked_with h.world.requests new h.outcome.answer } }

-- its number is the count of the requests that were accepted before
abbrev pub request_happens : PlanState → WorldState → (aggregator second : ℕ) → (imprint : List ℕ) → (name : Option (List ℕ)) → Happening
request_happens plan w k t imprint name = accepted_where (record { aggregator = k; second = t; imprint = imprint })
    (at_round plan w k t (round_request (length w.requests) imprint name (w.rounds k t)))

-- the pair in its place, where its second is new
abbrev pub put_rising : (second : ℕ) → (root : List ℕ) → List (ℕ × List ℕ) → List (ℕ × List ℕ)
put_rising p root [] = (p, root) ∷ []
put_rising p root (x ∷ xs) =
    if nat_lt p x.0 then (p, root) ∷ x ∷ xs
    else if p == x.0 then x ∷ xs
    else x ∷ put_rising p root xs

abbrev pub published_with : List (ℕ × List ℕ) → (second : ℕ) → Answer → List (ℕ × List ℕ)
published_with pairs p (answers.Published root) = put_rising p root pairs
published_with pairs p _ = pairs

abbrev pub publish_happens : WorldState → (second : ℕ) → Answer → Happening
publish_happens w p answer = record { world = record w { published = published_with w.published p answer }; outcome = outcome_of answer 0 }

abbrev pub core_restarts : WorldState → (core : ℕ) → Happening
core_restarts w core = record {
  world = record w { seconds = λ j t. if j == core then restart_row (w.seconds j t) else w.seconds j t };
  outcome = outcome_of answers.Done 0;
}

abbrev pub aggregator_restarts : WorldState → (aggregator : ℕ) → Happening
aggregator_restarts w aggregator = record {
  world = record w { rounds = λ k t. if k == aggregator then round_restarted (w.rounds k t) else w.rounds k t };
  outcome = outcome_of answers.Done 0;
}

-- the world before anything happened
unfoldable pub first_world : PlanState → WorldState
first_world plan = record { seconds = λ j t. fresh_second j (core_plan_of plan) t; rounds = λ k t. fresh_round; wire = []; requests = []; published = [] }

module _ (image : List ℕ → List ℕ) (plan : PlanState) where
  -- A MESSAGE IS TAKEN, by its addressee and what it is
  abbrev pub taken : WorldState → (sender addressee : Actor) (second : ℕ) → Content → Happening
  taken w (actors.Core from) (actors.Core j) t (contents.Synod m) = at_core w j t (receive_row (core_plan_of plan) t from m (w.seconds j t))
  taken w (actors.Aggregator from) (actors.Core j) t (contents.Submission item) = at_core w j t (submission_row from item (w.seconds j t))
  taken w (actors.Aggregator from) (actors.Aggregator k) t (contents.Submission item) = at_round plan w k t (round_submission from item (w.rounds k t))
  taken w sender (actors.Aggregator k) t (contents.Response above) = at_round plan w k t (round_response image above (w.rounds k t))
  taken w _ _ _ _ = unchanged w answers.Nothing

  abbrev pub delivered : WorldState → Option Message → Happening
  delivered w None = unchanged w answers.Nothing
  delivered w (Some m) = taken w m.sender m.addressee m.second m.content

  -- AN EVENT
  unfoldable pub happens : WorldState → Event → Happening
  happens w (events.Request k t imprint name) = request_happens plan w k t imprint name
  happens w (events.Close k t) = at_round plan w k t (round_close image (w.rounds k t))
  happens w (events.Seal j t) = at_core w j t (seal_row image (w.seconds j t))
  happens w (events.Ballot j t) = at_core w j t (ballot_row (core_plan_of plan) t j (w.seconds j t))
  happens w (events.Deliver number) = delivered w (slice_get w.wire number)
  happens w (events.Tell j t) = at_core w j t (tell_row (core_plan_of plan) t j (w.seconds j t))
  happens w (events.Respond j t) = at_core w j t (respond_row image (held_in w j) plan.start t (w.seconds j t))
  happens w (events.Publish j p) = publish_happens w p (publish_answer image (held_in w j) plan.start p)
  happens w (events.RestartCore j) = core_restarts w j
  happens w (events.RestartAggregator k) = aggregator_restarts w k

  -- A HISTORY
  abbrev pub run : WorldState → List Event → WorldState
  run w [] = w
  run w (e ∷ es) = run (happens w e).world es

  -- the world after these events
  unfoldable pub after : List Event → WorldState
  after es = run (first_world plan) es

-- the world after a history
abbrev pub world_of : (List ℕ → List ℕ) → History → WorldState
world_of image h = after image h.plan h.events
