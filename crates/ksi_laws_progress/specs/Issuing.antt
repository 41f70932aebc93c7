-- Requests in rounds, and the rounds above them.
use Rattle.std.specs.Prelude.{◌≡◌, ◌≢◌, ◌⊎◌, unwrap_or, ℕ, zero, suc, true, false, Bool, List, ◌++◌, slice_get, Some, None}
use Rattle.std.specs.List.{list_any}
use Rattle.ksi_aggtree.specs.declared.entries.Entry.{Entry}
use Rattle.ksi_aggtree.specs.Entries.{has_from, is_full}
use Rattle.ksi_corenode.specs.SecondState.{SecondState}
use Rattle.ksi_calendar.specs.Covered.{IsCovered}
use Rattle.ksi_aggregator.specs.Rows.{RoundState}
use Rattle.ksi_aggregator.specs.Rounds.{items_in}
use Rattle.ksi_schedule.specs.declared.actor.Actor.{Actor}
use Rattle.ksi_schedule.specs.declared.actor.Actor.TheVariants as actors
use Rattle.ksi_schedule.specs.Plans.{PlanState, parent_of}
use Rattle.ksi_schedule.specs.declared.event.Event.{Event}
use Rattle.ksi_schedule.specs.Events.{AreEvents}
use Rattle.ksi_imprint.specs.Imprints.{zero_imprint}
use Rattle.ksi_synod.specs.Voters.{is_voter}
use Rattle.ksi_world.specs.declared.outcome.Asked.{Asked}
use Rattle.ksi_world.specs.Histories.{WorldState, held_in, after}
use Rattle.ksi_world.specs.Records.{is_request, issued_of}
use Rattle.ksi_laws_progress.specs.Majorities.{IsMajority}
use Rattle.ksi_laws_progress.specs.Deciding.{voters_on, vote_in, own_candidate}

-- the item of the request of this number is there
abbrev pub has_request : (number : ℕ) → List Entry → Bool
has_request number entries = list_any (λ (entry : Entry). is_request number entry.origin) entries

-- BEFORE ALL IS SEALED

-- the round is open, and would take an item of the aggregator
pub record WouldTake (aggregator : ℕ) (r : RoundState) : Type 0 where
  pub unclosed : r.closed ≡ None
  pub new : has_from aggregator r.open_items ≡ false
  pub room : is_full r.open_items ≡ false

-- the same of a core's second
pub record CoreWouldTake (aggregator : ℕ) (s : SecondState) : Type 0 where
  pub unsealed : s.sealed ≡ None
  pub new : has_from aggregator s.open_items ≡ false
  pub room : is_full s.open_items ≡ false

-- the round has no response, and an item of the aggregator is in it or would be taken
pub record MayHave (aggregator : ℕ) (r : RoundState) : Type 0 where
  pub unanswered : r.answered ≡ None
  pub here_or_taken : (has_from aggregator (items_in r) ≡ true) ⊎ WouldTake aggregator r

-- a core's items of a second, sealed or not
abbrev pub items_at : SecondState → List Entry
items_at s = unwrap_or s.sealed s.open_items

-- an item of the aggregator is there or would be taken
abbrev pub CoreMayHave : (aggregator : ℕ) → SecondState → Type 0
CoreMayHave k s = (has_from k (items_at s) ≡ true) ⊎ CoreWouldTake k s

-- From the aggregator, whose parent this is, the core is reached in this many steps up, or fewer. Each node on the path,
-- up to the core, has an item of the one below it, or would take it
abbrev pub IsOpenAbove : PlanState → WorldState → (core second : ℕ) → (steps : ℕ) → (aggregator : ℕ) → (parent : Actor) → Type 0
IsOpenAbove plan w j t steps k (actors.Core i) = (i ≡ j) × CoreMayHave k (w.seconds j t)
IsOpenAbove plan w j t zero k (actors.Aggregator p) = ⊥
IsOpenAbove plan w j t (suc steps) k (actors.Aggregator p) = MayHave k (w.rounds p t) × IsOpenAbove plan w j t steps p (parent_of plan p)

-- WHEN ALL IS SEALED

-- the round is closed, has no response, and has an item of the aggregator
pub record HasItemOf (aggregator : ℕ) (r : RoundState) : Type 0 where
  pub entries : List Entry
  pub closed : r.closed ≡ Some entries
  pub unanswered : r.answered ≡ None
  pub there : has_from aggregator entries ≡ true

-- the core sealed an item of the aggregator
pub record CoreHasItemOf (aggregator : ℕ) (s : SecondState) : Type 0 where
  pub entries : List Entry
  pub sealed : s.sealed ≡ Some entries
  pub there : has_from aggregator entries ≡ true

-- the same way up, where each has an item of the one below it
abbrev pub IsJoinedAbove : PlanState → WorldState → (core second : ℕ) → (steps : ℕ) → (aggregator : ℕ) → (parent : Actor) → Type 0
IsJoinedAbove plan w j t steps k (actors.Core i) = (i ≡ j) × CoreHasItemOf k (w.seconds j t)
IsJoinedAbove plan w j t zero k (actors.Aggregator p) = ⊥
IsJoinedAbove plan w j t (suc steps) k (actors.Aggregator p) = HasItemOf k (w.rounds p t) × IsJoinedAbove plan w j t steps p (parent_of plan p)

-- A REQUEST THAT WAITS

-- The request of this number was accepted. Its item is in its aggregator's round, closed or not, which has no response.
-- From there up to the core each node has an item of the one below it, or would take it
pub record IsWaiting (plan : PlanState) (w : WorldState) (core steps number : ℕ) (asked : Asked) : Type 0 where
  pub accepted : slice_get w.requests number ≡ Some asked
  pub unanswered : (w.rounds asked.aggregator asked.second).answered ≡ None
  pub there : has_request number (items_in (w.rounds asked.aggregator asked.second)) ≡ true
  pub above : IsOpenAbove plan w core asked.second steps asked.aggregator (parent_of plan asked.aggregator)

-- The request was accepted, its round is closed, and from there items lead up to one that the core sealed
pub record IsJoinedTo (plan : PlanState) (w : WorldState) (core steps number : ℕ) (asked : Asked) : Type 0 where
  pub accepted : slice_get w.requests number ≡ Some asked
  pub items : List Entry
  pub closed : (w.rounds asked.aggregator asked.second).closed ≡ Some items
  pub unanswered : (w.rounds asked.aggregator asked.second).answered ≡ None
  pub there : has_request number items ≡ true
  pub above : IsJoinedAbove plan w core asked.second steps asked.aggregator (parent_of plan asked.aggregator)

-- the core holds its own candidate for the second, which is not the zero imprint, and all seconds from the start to it
pub record HasWon (image : List ℕ → List ℕ) (plan : PlanState) (w : WorldState) (core second : ℕ) : Type 0 where
  pub own : held_in w core second ≡ Some (own_candidate image w core second)
  pub real : own_candidate image w core second ≢ zero_imprint
  pub covered : IsCovered (held_in w core) plan.start second

-- the core holds nothing for the second, and some voters, more than half of them, cast no vote on it
pub record IsUndecided (plan : PlanState) (w : WorldState) (core second : ℕ) (some : List ℕ) : Type 0 where
  pub majority : IsMajority (voters_on plan second) some
  pub unheld : held_in w core second ≡ None
  pub unvoted : (k : ℕ) → is_voter some k ≡ true → (vote_in w k second).vote ≡ None

-- the later events may follow, and then the request's signature is issued, or the core holds that its second was missed
pub record CanBeIssuedOrMissed (image : List ℕ → List ℕ) (plan : PlanState) (before later : List Event) (core second number : ℕ) : Type 0 where
  pub may : AreEvents plan later
  pub issued_or_missed : ((text : List ℕ) × (issued_of image (after image plan (before ++ later)) number ≡ Some text))
      ⊎ (held_in (after image plan (before ++ later)) core second ≡ Some zero_imprint)

-- no core tried, promised, voted or came to hold anything
pub record LeavesVotes (w w' : WorldState) : Type 0 where
  pub tried : (k u : ℕ) → (vote_in w' k u).tried ≡ (vote_in w k u).tried
  pub promised : (k u : ℕ) → (vote_in w' k u).promised ≡ (vote_in w k u).promised
  pub vote : (k u : ℕ) → (vote_in w' k u).vote ≡ (vote_in w k u).vote
  pub held : (k u : ℕ) → (vote_in w' k u).held ≡ (vote_in w k u).held

-- the later events may follow, and then the request is joined to the core, and nobody voted meanwhile
pub record CanBeJoined (image : List ℕ → List ℕ) (plan : PlanState) (before later : List Event) (core steps number : ℕ) (asked : Asked) : Type 0 where
  pub may : AreEvents plan later
  pub joined : IsJoinedTo plan (after image plan (before ++ later)) core steps number asked
  pub votes : LeavesVotes (after image plan before) (after image plan (before ++ later))

-- the later events may follow, and then the request's signature is issued
pub record CanBeIssued (image : List ℕ → List ℕ) (plan : PlanState) (before later : List Event) (number : ℕ) : Type 0 where
  pub may : AreEvents plan later
  pub text : List ℕ
  pub issued : issued_of image (after image plan (before ++ later)) number ≡ Some text
