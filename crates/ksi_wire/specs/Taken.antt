-- Which events come to a node of a plan.
use Rattle.std.specs.Prelude.{◌≡◌, ℕ, ◌<◌, ◌≤◌, ◌^◌, List, length, IfSome, Ok}
use Rattle.ksi_imprint.specs.Reading.{hex_at}
use Rattle.ksi_aggtree.specs.Names.{IsName}
use Rattle.ksi_aggtree.specs.declared.item.Item.{Item}
use Rattle.ksi_schedule.specs.Printed.{hex_of}
use Rattle.ksi_schedule.specs.Plans.{PlanState, InRange, parent_of, name_of}
use Rattle.ksi_schedule.specs.declared.actor.Actor.{Actor}
use Rattle.ksi_schedule.specs.declared.actor.Actor.TheVariants as actors
use Rattle.ksi_synod.specs.Ballots.{IsBallot}
use Rattle.ksi_corenode.specs.Owners.{IsOwned}
use Rattle.ksi_synod.specs.declared.messages.Vote.{Vote}
use Rattle.ksi_synod.specs.declared.messages.SynodMessage.{SynodMessage}
use Rattle.ksi_synod.specs.declared.messages.SynodMessage.TheVariants as votes
use Rattle.ksi_corenode.specs.declared.event.CoreEvent.{CoreEvent}
use Rattle.ksi_corenode.specs.declared.event.CoreEvent.TheVariants as events
use Rattle.ksi_aggregator.specs.declared.event.RoundEvent.TheVariants as rounds
use Rattle.ksi_wire.specs.declared.event.AggregatorLine.{AggregatorLine}
use Rattle.ksi_wire.specs.declared.event.AggregatorLine.TheVariants as lines
use Rattle.ksi_wire.specs.declared.questions.CoreLine.{CoreLine}
use Rattle.ksi_wire.specs.declared.questions.CoreLine.TheVariants as questions
use Rattle.ksi_wire.specs.Responses.{IsTold}

-- its digest is read again from its hex digits, as the type of imprints keeps it
abbrev pub IsDigest : List ℕ → Type 0
IsDigest imprint = hex_at (hex_of imprint) ≡ Ok imprint

-- an aggregator of the plan below this node submits an item under the name that the plan gives it
pub record IsSubmitted (plan : PlanState) (me : Actor) (from second : ℕ) (item : Item) : Type 0 where
  pub there : from < length plan.parents
  pub below : parent_of plan from ≡ me
  pub in_range : InRange plan second
  pub digest : IsDigest item.imprint
  pub level : item.level < 239
  pub named : item.name ≡ name_of plan from

-- a ballot of a core of the plan
abbrev pub IsBallotOf : PlanState → ℕ → Type 0
IsBallotOf plan ballot = IsBallot ballot × IsOwned plan.cores ballot

abbrev pub IsCast : PlanState → Vote → Type 0
IsCast plan vote = IsBallotOf plan vote.ballot × IsDigest vote.imprint

abbrev pub IsVote : PlanState → SynodMessage → Type 0
IsVote plan (votes.NextBallot b) = IsBallotOf plan b
IsVote plan (votes.LastVote last) = IsBallotOf plan last.ballot × IfSome last.vote (IsCast plan)
IsVote plan (votes.BeginBallot b decree) = IsBallotOf plan b × IsDigest decree
IsVote plan (votes.Voted b) = IsBallotOf plan b
IsVote plan (votes.Success decree) = IsDigest decree

abbrev pub ComesToCore : PlanState → (me : ℕ) → CoreEvent → Type 0
ComesToCore plan me (events.Submission from second item) = IsSubmitted plan (actors.Core me) from second item
ComesToCore plan me (events.Seal second) = InRange plan second
ComesToCore plan me (events.Ballot second) = InRange plan second
ComesToCore plan me (events.Receive from second m) = (from < plan.cores) × InRange plan second × IsVote plan m
ComesToCore plan me (events.Tell second) = InRange plan second
ComesToCore plan me (events.Respond second) = InRange plan second
ComesToCore plan me (events.Publish second) = InRange plan second

-- what is asked of a core: an event, what it has of 1 to 1,024 seconds, or a chain
abbrev pub IsAskedOfCore : PlanState → (me : ℕ) → CoreLine → Type 0
IsAskedOfCore plan me (questions.Event event) = ComesToCore plan me event
IsAskedOfCore plan me (questions.Held span) = InRange plan span.from × (1 ≤ span.count) × (span.count ≤ 1024)
IsAskedOfCore plan me (questions.Chain ends) = InRange plan ends.from × InRange plan ends.to

-- a response is of a second of the plan, and has a text
abbrev pub ComesToAggregator : PlanState → (me : ℕ) → AggregatorLine → Type 0
ComesToAggregator plan me (lines.Sign number) = number < 2 ^ 64
ComesToAggregator plan me (lines.Event (rounds.Request number second imprint name)) = (number < 2 ^ 64) × InRange plan second × IsDigest imprint × IfSome name IsName
ComesToAggregator plan me (lines.Event (rounds.Submission from second item)) = IsSubmitted plan (actors.Aggregator me) from second item
ComesToAggregator plan me (lines.Event (rounds.Close second)) = InRange plan second
ComesToAggregator plan me (lines.Event (rounds.Response second above)) = InRange plan second × IsTold second above
