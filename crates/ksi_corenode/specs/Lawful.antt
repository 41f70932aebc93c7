-- The effect of facts on a second, applied in order, and which facts are valid after others (called lawful here).
use Rattle.std.specs.Prelude.{◌≡◌, ℕ, ◌≤◌, ◌<◌, ◌^◌, Bool, true, false, ◌&&◌, nat_le, List, [], ◌∷◌, ◌++◌, take, slice_get, IsTrue, IsSome, IsNone, Option, Some, None}
use Rattle.std.specs.List.{list_all}
use Rattle.ksi_aggtree.specs.declared.entries.Entry.{Entry}
use Rattle.ksi_aggtree.specs.declared.entries.Origin.{Origin}
use Rattle.ksi_aggtree.specs.declared.entries.Origin.TheVariants as origins
use Rattle.ksi_aggtree.specs.Entries.{items_of}
use Rattle.ksi_aggtree.specs.Rounds.{IsRound, leaf_level, highest_item}
use Rattle.ksi_synod.specs.Ballots.{IsBallot}
use Rattle.ksi_synod.specs.Rows.{is_older}
use Rattle.ksi_synod.specs.VoteState.{VoteState}
use Rattle.ksi_corenode.specs.declared.fact.What.{What}
use Rattle.ksi_corenode.specs.declared.fact.What.TheVariants.{Sealed, Tried, Promised, Cast, Holds}
use Rattle.ksi_corenode.specs.declared.fact.Fact.{Fact}
use Rattle.ksi_corenode.specs.Facts.{StableState, with_fact}
use Rattle.ksi_corenode.specs.Owners.{StoresOwned}

-- THE EFFECT OF FACTS

-- the stable part of a second before any event
abbrev pub fresh_state : StableState
fresh_state = record { sealed = None; tried = 0; promised = 0; vote = None; held = None }

-- a stable part after the facts of its second, applied in order
abbrev pub stored_on : (second : ℕ) → StableState → List Fact → StableState
stored_on second s [] = s
stored_on second s (fact ∷ facts) = stored_on second (with_fact (Some fact) second s) facts

-- the stable part of a second after these facts alone
abbrev pub stored_by : List Fact → (second : ℕ) → StableState
stored_by facts second = stored_on second fresh_state facts

-- the facts with one more, if any
abbrev pub with_new : List Fact → Option Fact → List Fact
with_new facts None = facts
with_new facts (Some fact) = facts ++ fact ∷ []

-- VALID FACTS

-- an aggregator submitted the item
abbrev pub is_submitted : Origin → Bool
is_submitted (origins.Request number) = false
is_submitted (origins.Aggregator from) = true

abbrev pub AreSubmitted : List Entry → Type 0
AreSubmitted entries = IsTrue (list_all (λ (entry : Entry). is_submitted entry.origin) entries)

-- what may be stored for a second, given its stable part. A second is sealed once, with the items of a round that
-- aggregators submitted, and a root is held once; a ballot is tried only after sealing. The ballots that are tried, promised
-- and voted in increase, and a vote is cast in the ballot promised at that time
abbrev pub MayStore : StableState → What → Type 0
MayStore s (Sealed items) = IsNone s.sealed × IsRound (items_of items) × AreSubmitted items
MayStore s (Tried ballot) = IsSome s.sealed × (s.tried < ballot) × IsBallot ballot
MayStore s (Promised ballot) = (s.promised < ballot) × IsBallot ballot
MayStore s (Cast vote) = (vote.ballot ≡ s.promised) × IsTrue (is_older s.vote vote.ballot) × IsBallot vote.ballot
MayStore s (Holds root) = IsNone s.held

-- a fact is valid given the stable part of its second: the second is at or after the start and below 2^63, and the ballot,
-- if any, belongs to one of this many cores
pub record IsLawful (cores start : ℕ) (s : StableState) (fact : Fact) : Type 0 where
  pub from : start ≤ fact.second
  pub below : fact.second < 2 ^ 63
  pub owned : StoresOwned cores fact.what
  pub what : MayStore s fact.what

-- each of the facts is valid after those before it
abbrev pub AreLawful : (cores start : ℕ) → List Fact → Type 0
AreLawful cores start facts = (k : ℕ) (fact : Fact) → slice_get facts k ≡ Some fact → IsLawful cores start (stored_by (take k facts) fact.second) fact

-- an item that a core's round accepts: the level of its leaf is in range, and an aggregator submitted it
abbrev pub is_fit : Entry → Bool
is_fit entry = nat_le (leaf_level entry.item) highest_item && is_submitted entry.origin

-- ---- in the code

-- the condition that a fact other than Sealed puts on the vote
abbrev pub MayStoreVote : VoteState → What → Type 0
MayStoreVote v (Sealed items) = Unit {0}
MayStoreVote v (Tried ballot) = IsBallot ballot
MayStoreVote v (Promised ballot) = (v.promised < ballot) × IsBallot ballot
MayStoreVote v (Cast vote) = (vote.ballot ≡ v.promised) × IsTrue (is_older v.vote vote.ballot) × IsBallot vote.ballot
MayStoreVote v (Holds root) = IsNone v.held
