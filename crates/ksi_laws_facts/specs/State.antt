-- What every actor keeps, and what is on the wire, as it is read off what was seen: off facts, and off what came since.
use Rattle.ksi_schedule.specs.Plans.{core_plan_of}
use Rattle.std.specs.Prelude.{ℕ, Bool, List, [], ◌∷◌, ◌++◌, map, option_map, Option}
use Rattle.ksi_aggtree.specs.Entries.{candidate_of}
use Rattle.ksi_synod.specs.Voters.{cores_below, is_voter}
use Rattle.ksi_synod.specs.VoteState.{Hand}
use Rattle.ksi_signature.specs.declared.answer.Answer.{Answer}
use Rattle.ksi_synod.specs.CorePlans.{CorePlanState, voters_of}
use Rattle.ksi_corenode.specs.SecondState.{SecondState}
use Rattle.ksi_calendar.specs.Covered.{Roots}
use Rattle.ksi_aggregator.specs.Rows.{RoundState}
use Rattle.ksi_schedule.specs.declared.actor.Actor.TheVariants as actors
use Rattle.ksi_schedule.specs.declared.event.Event.{Event}
use Rattle.ksi_schedule.specs.declared.event.Event.TheVariants as events
use Rattle.ksi_schedule.specs.Plans.{PlanState}
use Rattle.ksi_world.specs.declared.outcome.Asked.{Asked}
use Rattle.ksi_world.specs.declared.message.Message.{Message}
use Rattle.ksi_world.specs.Histories.{WorldState, asked_with, published_with}
use Rattle.ksi_laws_facts.specs.Seen.{Seen}
use Rattle.ksi_laws_facts.specs.Deeds.{Deed, deeds, of_second, facts, open_items, sealed_items, closed_items, tried_ballot, greatest_promise, greatest_vote, held_root, kept_response}
use Rattle.ksi_laws_facts.specs.Since.{Since, since, told_until, voted_after, has_told, greatest_told, decree_begun}

-- A CORE'S SECOND

-- the candidate of a core with these facts
abbrev pub own_candidate : (List ℕ → List ℕ) → (facts : List Deed) → Option (List ℕ)
own_candidate image facts = option_map (candidate_of image) (sealed_items facts)

-- a flag for each of the cores 0 to 8: whether it is one of these
abbrev pub flags_of : (among : ℕ → Bool) → List Bool
flags_of among = map among (cores_below 9)

-- the ballot in hand: the senders of LastVotes, the greatest vote in these, the decree once it is begun, and those who
-- voted
abbrev pub hand_since : (voters : List ℕ) (candidate : Option (List ℕ)) → Since → Hand
hand_since voters candidate s = record {
  ballot = s.ballot;
  last = flags_of (has_told (told_until voters s));
  greatest = greatest_told (told_until voters s);
  decree = decree_begun voters candidate s;
  voted = flags_of (is_voter (voted_after voters s));
}

-- by the core's facts and deeds for the second
abbrev pub second_by : (List ℕ → List ℕ) → CorePlanState → (core second : ℕ) → (facts deeds : List Deed) → SecondState
second_by image core_plan core second facts deeds = record {
  vote = record {
    me = core;
    voters = voters_of core_plan second;
    candidate = own_candidate image facts;
    tried = tried_ballot facts;
    promised = greatest_promise facts;
    vote = greatest_vote facts;
    held = held_root facts;
    hand = option_map (hand_since (voters_of core_plan second) (own_candidate image facts)) (since deeds);
  };
  open_items = open_items deeds;
  sealed = sealed_items facts;
}

abbrev pub second_seen : (List ℕ → List ℕ) → PlanState → List Seen → (core second : ℕ) → SecondState
second_seen image plan past core second = second_by image (core_plan_of plan) core second
    (of_second second (facts (actors.Core core) past)) (of_second second (deeds (actors.Core core) past))

-- what a core holds for each second
abbrev pub held_seen : List Seen → (core : ℕ) → Roots
held_seen past core second = held_root (of_second second (facts (actors.Core core) past))

-- AN AGGREGATOR'S ROUND

-- by the aggregator's facts and deeds for the second
abbrev pub round_by : (facts deeds : List Deed) → RoundState
round_by facts deeds = record { open_items = open_items deeds; closed = closed_items facts; answered = kept_response facts }

abbrev pub round_seen : List Seen → (aggregator second : ℕ) → RoundState
round_seen past aggregator second = round_by
    (of_second second (facts (actors.Aggregator aggregator) past)) (of_second second (deeds (actors.Aggregator aggregator) past))

-- ALL

-- all messages that were sent, the oldest first
unfoldable pub wire_seen : List Seen → List Message
wire_seen [] = []
wire_seen (x ∷ past) = wire_seen past ++ x.sent

-- the requests that were accepted, in order
abbrev pub asked_by : List Asked → Event → Answer → List Asked
asked_by requests (events.Request k t imprint name) answer = asked_with requests (record { aggregator = k; second = t; imprint = imprint }) answer
asked_by requests _ answer = requests

unfoldable pub requests_seen : List Seen → List Asked
requests_seen [] = []
requests_seen (x ∷ past) = asked_by (requests_seen past) x.event x.answer

-- the seconds that were published, rising, each with its root
abbrev pub published_by : List (ℕ × List ℕ) → Event → Answer → List (ℕ × List ℕ)
published_by pairs (events.Publish j p) answer = published_with pairs p answer
published_by pairs _ answer = pairs

unfoldable pub published_seen : List Seen → List (ℕ × List ℕ)
published_seen [] = []
published_seen (x ∷ past) = published_by (published_seen past) x.event x.answer

abbrev pub world_seen : (List ℕ → List ℕ) → PlanState → List Seen → WorldState
world_seen image plan past = record {
  seconds = second_seen image plan past;
  rounds = round_seen past;
  wire = wire_seen past;
  requests = requests_seen past;
  published = published_seen past;
}
