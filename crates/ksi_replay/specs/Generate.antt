-- The schedule of a number: three cores, six aggregators, and 256 seconds of requests, lost and repeated messages, and
-- restarts.
use Rattle.std.specs.Prelude.{ℕ, zero, suc, ◌+◌, ◌%◌, ◌^◌, ◌<◌, ◌≤◌, ◌==◌, nat_lt, not, if◌then◌else◌, List, [], ◌∷◌, None}
use Rattle.ksi_schedule.specs.declared.actor.Actor.{Actor}
use Rattle.ksi_schedule.specs.declared.actor.Actor.TheVariants as actors
use Rattle.ksi_schedule.specs.declared.parent.Parent.{Parent}
use Rattle.ksi_schedule.specs.declared.event.Event.TheVariants as events
use Rattle.ksi_schedule.specs.declared.event.Event.{Event}
use Rattle.ksi_schedule.specs.Plans.{PlanState}
use Rattle.ksi_schedule.specs.Events.{History}
use Rattle.ksi_replay.specs.declared.manner.Manner.{Manner}
use Rattle.ksi_replay.specs.declared.manner.Manner.TheVariants.{Once, Drawn}
use Rattle.ksi_replay.specs.Making.{Making, Steps, done, ◌>>=◌, ◌>>◌, draw, digest, happen, messages, holds, when, times, each_message}

-- ---- the plan

-- a parent, to which is submitted under no name
abbrev pub bare : Actor → Parent
bare actor = record { actor = actor; name = None }

-- aggregators 0, 1 and 2 submit to the core of their number, aggregators 3 and 4 to aggregators 0 and 1, and aggregator 5 to
-- aggregator 3
abbrev pub parents : List Parent
parents = bare (actors.Core 0) ∷ bare (actors.Core 1) ∷ bare (actors.Core 2) ∷ bare (actors.Aggregator 0) ∷ bare (actors.Aggregator 1) ∷ bare (actors.Aggregator 3) ∷ []

abbrev pub header : PlanState
header = record { cores = 3; start = 1700000000; voters = []; parents = parents }

-- ---- deliveries

-- how often a message is delivered, by a draw of eight: not at all at 0, twice at 1, else once
abbrev pub copies : ℕ → ℕ
copies k = if k == 0 then 0 else if k == 1 then 2 else 1

-- a message is delivered: once, or as often as a draw says
abbrev pub delivered : Manner → (number : ℕ) → Steps (Unit {0})
delivered Once number = happen (events.Deliver number)
delivered Drawn number = do
  k ← draw 8
  times (copies k) (happen (events.Deliver number))

-- each message from this number on, in order of number, including those that these deliveries send, until none is left;
-- but at most this many
unfoldable pub delivers : (most : ℕ) → Manner → (first : ℕ) → Steps (Unit {0})
delivers most manner first = each_message most first (delivered manner)

-- the same as a relation without a bound: from a making, with each message from this number on, to the last making, where
-- none is left
pub data DeliversAll (manner : Manner) : (first : ℕ) → (m last : Making) → Type 0 where
  none_left : (first : ℕ) (m : Making) → (messages m).0 ≤ first → DeliversAll manner first m m
  one_more : (first : ℕ) (m last : Making) → first < (messages m).0 → DeliversAll manner (suc first) (delivered manner first m).1 last → DeliversAll manner first m last

-- an event, and then each message that was sent since
unfoldable pub happen_and_deliver : (most : ℕ) → Event → Steps (Unit {0})
happen_and_deliver most event = do
  first ← messages
  happen event
  delivers most Once first

-- ---- the ten steps of a second

-- 1. up to eight requests, of drawn aggregators and drawn digests, under no name
unfoldable pub request : (second : ℕ) → Steps (Unit {0})
request second = do
  aggregator ← draw 6
  imprint ← digest
  happen (events.Request aggregator second imprint None)

unfoldable pub requests : (second : ℕ) → Steps (Unit {0})
requests second = do
  count ← draw 9
  times count (request second)

-- 2. the aggregators close their rounds, the lower ones of the tree first, and the submission is delivered where one was sent
unfoldable pub close : (aggregator second : ℕ) → Steps (Unit {0})
close aggregator second = do
  first ← messages
  happen (events.Close aggregator second)
  sent ← messages
  when (nat_lt first sent) (happen (events.Deliver first))

unfoldable pub closes : (second : ℕ) → Steps (Unit {0})
closes second = do
  close 5 second
  close 3 second
  close 4 second
  close 0 second
  close 1 second
  close 2 second

-- 3. the cores seal
unfoldable pub seals : (second : ℕ) → Steps (Unit {0})
seals second = do
  happen (events.Seal 0 second)
  happen (events.Seal 1 second)
  happen (events.Seal 2 second)

-- 4. a drawn core tries a ballot, and each message is delivered as often as a draw says; the core is what is found
unfoldable pub first_ballot : (most second : ℕ) → Steps ℕ
first_ballot most second = do
  core ← draw 3
  first ← messages
  happen (events.Ballot core second)
  delivers most Drawn first
  done core

-- 5. at one draw of four a drawn core restarts
unfoldable pub core_restarts : Steps (Unit {0})
core_restarts = do
  core ← draw 3
  happen (events.RestartCore core)

unfoldable pub core_may_restart : Steps (Unit {0})
core_may_restart = do
  k ← draw 4
  when (k == 0) core_restarts

-- 6. where the core holds nothing, it tries a ballot again, and all is delivered
unfoldable pub second_ballot : (most core second : ℕ) → Steps (Unit {0})
second_ballot most core second = do
  held ← holds core second
  when (not held) (happen_and_deliver most (events.Ballot core second))

-- 8. each core responds, and all is delivered
unfoldable pub responses : (most second : ℕ) → Steps (Unit {0})
responses most second = do
  happen_and_deliver most (events.Respond 0 second)
  happen_and_deliver most (events.Respond 1 second)
  happen_and_deliver most (events.Respond 2 second)

-- 9. at one draw of eight a drawn aggregator restarts
unfoldable pub aggregator_restarts : Steps (Unit {0})
aggregator_restarts = do
  aggregator ← draw 6
  happen (events.RestartAggregator aggregator)

unfoldable pub aggregator_may_restart : Steps (Unit {0})
aggregator_may_restart = do
  k ← draw 8
  when (k == 0) aggregator_restarts

-- 10. every sixteenth second a drawn core publishes
unfoldable pub publishes : (second : ℕ) → Steps (Unit {0})
publishes second = do
  core ← draw 3
  happen (events.Publish core second)

unfoldable pub may_publish : (i second : ℕ) → Steps (Unit {0})
may_publish i second = when (i % 16 == 15) (publishes second)

-- the ten steps of the second that is number i; at 7 the core of the ballot tells, and all is delivered
unfoldable pub steps_of : (most i second : ℕ) → Steps (Unit {0})
steps_of most i second = do
  requests second
  closes second
  seals second
  core ← first_ballot most second
  core_may_restart
  second_ballot most core second
  happen_and_deliver most (events.Tell core second)
  responses most second
  aggregator_may_restart
  may_publish i second

-- ---- the whole

-- second i of the plan
abbrev pub second_made : (most i : ℕ) → Steps (Unit {0})
second_made most i = steps_of most i (1700000000 + i)

-- this many seconds from number i on
abbrev pub seconds_made : (most count i : ℕ) → Steps (Unit {0})
seconds_made most zero i = done tt
seconds_made most (suc count) i = second_made most i >> seconds_made most count (suc i)

-- nothing is taken of a stream of this many places, and nothing has happened
abbrev pub first_making : (places number : ℕ) → Making
first_making places number = record { place = record { number = number; places = places; taken = 0 }; history = record { plan = header; events = [] } }

-- the seconds 0 to 255
unfoldable pub all_seconds : (most : ℕ) → Steps (Unit {0})
all_seconds most = seconds_made most 256 0

-- the schedule of a number, if its stream has this many places, and at most this many messages are looked at since an
-- event
abbrev pub generated_within : (places most number : ℕ) → History
generated_within places most number = (all_seconds most (first_making places number)).1.history

-- as many as a ballot's three messages can lead to, where each is delivered twice: 3 NextBallot, 6 LastVote,
-- 36 BeginBallot, 72 Voted and 432 Success; no other event leads to more
abbrev pub enough : ℕ
enough = 549

-- The schedule of a number. No bound is reached: with greater ones each schedule is the same (the law
-- `no_bound_is_reached`). All deliveries end because no message is left, and fewer than 2^21 bytes are taken.
unfoldable pub generated : (number : ℕ) → History
generated number = generated_within (2 ^ 64) enough number
