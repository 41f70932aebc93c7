-- What a world keeps, as a history has it.
use Rattle.ksi_schedule.specs.Plans.{core_plan_of}
use Rattle.std.specs.Prelude.{◌≡◌, ◌++◌, ◌∷◌, ℕ, List, [], length, Option, Some, None}
use Rattle.ksi_aggtree.specs.declared.entries.Entry.{Entry}
use Rattle.ksi_synod.specs.Voters.{is_voter, is_flagged}
use Rattle.ksi_synod.specs.VoteState.{Hand}
use Rattle.ksi_synod.specs.CorePlans.{CorePlanState, voters_of}
use Rattle.ksi_corenode.specs.SecondState.{SecondState}
use Rattle.ksi_aggregator.specs.Rows.{RoundState}
use Rattle.ksi_schedule.specs.declared.actor.Actor.{Actor}
use Rattle.ksi_schedule.specs.declared.actor.Actor.TheVariants as actors
use Rattle.ksi_schedule.specs.declared.event.Event.{Event}
use Rattle.ksi_schedule.specs.declared.event.Event.TheVariants.{RestartCore, RestartAggregator}
use Rattle.ksi_schedule.specs.Events.{History}
use Rattle.ksi_world.specs.Histories.{world_of, after}
use Rattle.ksi_laws_facts.specs.Seen.{Seen, seen}
use Rattle.ksi_laws_facts.specs.Deeds.{Deed, deeds, of_second, facts, open_items, sealed_items, closed_items, tried_ballot, greatest_promise, greatest_vote, held_root, kept_response}
use Rattle.ksi_laws_facts.specs.Since.{Since, since, told_until, voted_after, has_told, greatest_told, decree_begun}
use Rattle.ksi_laws_facts.specs.State.{own_candidate, world_seen}
use Rattle.ksi_laws_facts.specs.Steps.{IsStepByFacts}

-- what a core keeps over restarts, for a second with these facts
pub record IsStableState (image : List ℕ → List ℕ) (facts : List Deed) (s : SecondState) : Type 0 where
  pub sealed : s.sealed ≡ sealed_items facts
  pub candidate : s.vote.candidate ≡ own_candidate image facts
  pub tried : s.vote.tried ≡ tried_ballot facts
  pub promised : s.vote.promised ≡ greatest_promise facts
  pub vote : s.vote.vote ≡ greatest_vote facts
  pub held : s.vote.held ≡ held_root facts

-- the same of an aggregator's round
pub record IsStableRound (facts : List Deed) (r : RoundState) : Type 0 where
  pub closed : r.closed ≡ closed_items facts
  pub answered : r.answered ≡ kept_response facts

-- the hand has what came of the ballot; its members are flags, one for each of the cores 0 to 8
pub record IsHand (voters : List ℕ) (candidate : Option (List ℕ)) (s : Since) (h : Hand) : Type 0 where
  pub ballot : h.ballot ≡ s.ballot
  pub last : (core : ℕ) → is_flagged h.last core ≡ has_told (told_until voters s) core
  pub greatest : h.greatest ≡ greatest_told (told_until voters s)
  pub decree : h.decree ≡ decree_begun voters candidate s
  pub voted : (core : ℕ) → is_flagged h.voted core ≡ is_voter (voted_after voters s) core
  pub last_flags : length h.last ≡ 9
  pub voted_flags : length h.voted ≡ 9

-- there is a hand exactly where a ballot was tried and the core was not restarted after it
abbrev pub IsInHand : (voters : List ℕ) → (candidate : Option (List ℕ)) → Option Since → Option Hand → Type 0
IsInHand voters candidate None None = Unit {0}
IsInHand voters candidate (Some s) (Some h) = IsHand voters candidate s h
IsInHand voters candidate _ _ = ⊥

-- a core's second is what was seen of it. The core votes under its number, with the voters of the second; nothing is open
-- once it is sealed; the ballot in hand is the one tried last
pub record IsRecalledSecond (image : List ℕ → List ℕ) (past : List Seen) (core_plan : CorePlanState) (core second : ℕ) (s : SecondState) : Type 0 where
  pub me : s.vote.me ≡ core
  pub voters : s.vote.voters ≡ voters_of core_plan second
  pub kept : IsStableState image (of_second second (facts (actors.Core core) past)) s
  pub open_items : s.open_items ≡ open_items (of_second second (deeds (actors.Core core) past))
  pub shut : (items : List Entry) → s.sealed ≡ Some items → s.open_items ≡ []
  pub ballot : (h : Hand) → s.vote.hand ≡ Some h → h.ballot ≡ s.vote.tried
  pub hand : IsInHand (voters_of core_plan second) (own_candidate image (of_second second (facts (actors.Core core) past))) (since (of_second second (deeds (actors.Core core) past))) s.vote.hand

-- an aggregator's round is what was seen of it; nothing is open once it is closed
pub record IsRecalledRound (past : List Seen) (aggregator second : ℕ) (r : RoundState) : Type 0 where
  pub kept : IsStableRound (of_second second (facts (actors.Aggregator aggregator) past)) r
  pub open_items : r.open_items ≡ open_items (of_second second (deeds (actors.Aggregator aggregator) past))
  pub shut : (items : List Entry) → r.closed ≡ Some items → r.open_items ≡ []

-- whatever any actor keeps after a history is what was seen. At each moment the whole world is what was seen by then, and
-- the next event has the answer, the new facts and the messages of the step table over it. Of an actor's facts none is lost,
-- and a restart adds none
pub record IsRecalled (image : List ℕ → List ℕ) (history : History) : Type 0 where
  pub seconds : (core second : ℕ) → IsRecalledSecond image (seen image history.plan history.events) (core_plan_of history.plan) core second ((world_of image history).seconds core second)
  pub rounds : (aggregator second : ℕ) → IsRecalledRound (seen image history.plan history.events) aggregator second ((world_of image history).rounds aggregator second)
  pub world : (before later : List Event) → history.events ≡ before ++ later → after image history.plan before ≡ world_seen image history.plan (seen image history.plan before)
  pub steps : (before later : List Event) (event : Event) → history.events ≡ before ++ event ∷ later → IsStepByFacts image history.plan before event
  pub grow : (actor : Actor) (before later : List Event) → history.events ≡ before ++ later
      → (more : List Deed) × (facts actor (seen image history.plan history.events) ≡ more ++ facts actor (seen image history.plan before))
  pub core_restarts : (actor : Actor) (core : ℕ) → facts actor (seen image history.plan (history.events ++ RestartCore core ∷ [])) ≡ facts actor (seen image history.plan history.events)
  pub aggregator_restarts : (actor : Actor) (aggregator : ℕ) → facts actor (seen image history.plan (history.events ++ RestartAggregator aggregator ∷ [])) ≡ facts actor (seen image history.plan history.events)
