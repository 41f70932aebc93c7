-- A ballot on a second that a majority of its voters answers, in a whole infrastructure.
use Rattle.std.specs.Prelude.{◌≡◌, ◌≢◌, ℕ, ◌<◌, ◌≤◌, true, List, ◌∷◌, ◌++◌, length, map, ◌+◌, ◌*◌, Some, IsSome, IfSome, unwrap_or, replicate}
use Rattle.ksi_aggtree.specs.Entries.{candidate_of}
use Rattle.ksi_synod.specs.Ballots.{last_round}
use Rattle.ksi_synod.specs.Voters.{is_voter}
use Rattle.ksi_synod.specs.CorePlans.{voters_of}
use Rattle.ksi_synod.specs.VoteState.{VoteState}
use Rattle.ksi_synod.specs.Rows.{greater_round, next_ballot}
use Rattle.ksi_schedule.specs.declared.event.Event.{Event}
use Rattle.ksi_schedule.specs.declared.event.Event.TheVariants as events
use Rattle.ksi_schedule.specs.Plans.{PlanState, core_plan_of}
use Rattle.ksi_schedule.specs.Events.{AreEvents}
use Rattle.ksi_world.specs.Histories.{WorldState, held_in, after}
use Rattle.ksi_laws_progress.specs.Numbers.{ballot_numbers}

-- who votes on a second
abbrev pub voters_on : PlanState → (second : ℕ) → List ℕ
voters_on plan t = voters_of (core_plan_of plan) t

-- a core's state of the vote on a second
abbrev pub vote_in : WorldState → (core second : ℕ) → VoteState
vote_in w j t = (w.seconds j t).vote

-- the candidate that a core has for a second, or would have if it sealed it now
abbrev pub own_candidate : (List ℕ → List ℕ) → WorldState → (core second : ℕ) → List ℕ
own_candidate image w j t = candidate_of image (unwrap_or (w.seconds j t).sealed (w.seconds j t).open_items)

-- the core's next ballot on the second is there, and is beyond all that these promised
pub record IsAhead (w : WorldState) (core second : ℕ) (some : List ℕ) : Type 0 where
  pub more : greater_round (vote_in w core second) ≢ last_round
  pub beyond : (k : ℕ) → is_voter some k ≡ true → (vote_in w k second).promised < next_ballot (vote_in w core second)

-- The core seals the second, unless it did, and tries a ballot. Of that ballot, each message to or from some voters is
-- delivered once, in order, and each core is sent the decision. Nothing else is delivered
abbrev pub ballot_events : PlanState → WorldState → (core second : ℕ) → (some : List ℕ) → List Event
ballot_events plan w core t some = events.Seal core t ∷ events.Ballot core t ∷ map events.Deliver (ballot_numbers (length w.wire) (voters_on plan t) some plan.cores)

-- the core seals the second, unless it did, and tries this many ballots, of which nothing is delivered
abbrev pub tries : (core second n : ℕ) → List Event
tries core t n = events.Seal core t ∷ replicate n (events.Ballot core t)

-- what these cast a vote for on the second, if anything, is this
abbrev pub VotedFor : WorldState → (second : ℕ) → (some : List ℕ) → (root : List ℕ) → Type 0
VotedFor w t some root = (k : ℕ) → is_voter some k ≡ true → IfSome (vote_in w k t).vote (λ vote. vote.imprint ≡ root)

-- the later events may follow, and then all cores hold this root for the second
pub record HoldAll (image : List ℕ → List ℕ) (plan : PlanState) (before later : List Event) (second : ℕ) (root : List ℕ) : Type 0 where
  pub may : AreEvents plan later
  pub held : (core : ℕ) → core < plan.cores → held_in (after image plan (before ++ later)) core second ≡ Some root

-- the later events may follow, and then all cores hold all seconds from one on and before another
pub record HoldSeconds (image : List ℕ → List ℕ) (plan : PlanState) (before later : List Event) (from end : ℕ) : Type 0 where
  pub may : AreEvents plan later
  pub held : (core second : ℕ) → core < plan.cores → from ≤ second → second < end → IsSome (held_in (after image plan (before ++ later)) core second)

-- The most events that a ballot has: two at its core, four for each voter, and one for each core that is sent the
-- decision. The voters are at most all cores
abbrev pub ballot_length : PlanState → ℕ
ballot_length plan = 2 + 5 * plan.cores
