-- What facts make of a round in their order, and which facts an aggregator may store after others: lawful ones.
use Rattle.std.specs.Prelude.{◌≡◌, ℕ, ◌≤◌, ◌<◌, ◌^◌, true, false, List, [], ◌∷◌, ◌++◌, length, take, slice_get, unwrap_or, IsNone, Option, Some, None}
use Rattle.ksi_aggtree.specs.declared.item.Item.{Item}
use Rattle.ksi_aggtree.specs.declared.entries.Entry.{Entry}
use Rattle.ksi_aggtree.specs.declared.entries.Origin.{Origin}
use Rattle.ksi_aggtree.specs.declared.entries.Origin.TheVariants as origins
use Rattle.ksi_aggtree.specs.Entries.{has_from, is_full}
use Rattle.ksi_aggtree.specs.Rounds.{leaf_level, highest_item}
use Rattle.ksi_signature.specs.declared.above.Above.{Above}
use Rattle.ksi_aggregator.specs.declared.fact.RoundFact.{RoundFact}
use Rattle.ksi_aggregator.specs.declared.fact.RoundFact.TheVariants.{Closed, Answered}
use Rattle.ksi_aggregator.specs.declared.fact.Fact.{Fact}
use Rattle.ksi_aggregator.specs.Facts.{StableRound, with_fact}
use Rattle.ksi_aggregator.specs.Rounds.{fact_of}
use Rattle.ksi_aggregator.specs.Responses.{has_lower}
use Rattle.ksi_aggregator.specs.Issuing.{from_request}

-- WHAT FACTS MAKE

-- the stable part of a round before anything came
abbrev pub fresh_stable : StableRound
fresh_stable = record { closed = None; answered = None }

-- a stable part with those of the facts that are of its second, in their order
abbrev pub stored_on : (second : ℕ) → StableRound → List Fact → StableRound
stored_on second s [] = s
stored_on second s (fact ∷ facts) = stored_on second (with_fact (Some fact) second s) facts

-- what the facts make of a round for which nothing came before
abbrev pub stored_by : List Fact → (second : ℕ) → StableRound
stored_by facts second = stored_on second fresh_stable facts

-- the facts with one more, if any
abbrev pub with_new : List Fact → Option Fact → List Fact
with_new facts None = facts
with_new facts (Some fact) = facts ++ fact ∷ []

-- THE ITEMS OF A ROUND

-- an item of a request has level 0; an item of an aggregator has a leaf of a level that a round takes, and is its first
abbrev pub IsFit : (front : List Entry) → Origin → Item → Type 0
IsFit front (origins.Request number) item = item.level ≡ 0
IsFit front (origins.Aggregator from) item = (leaf_level item ≤ highest_item) × (has_from from front ≡ false)

-- an open round with these items takes the entry after them
pub record IsAdded (front : List Entry) (entry : Entry) : Type 0 where
  pub room : is_full front ≡ false
  pub fit : IsFit front entry.origin entry.item

-- it takes each of these after those before it
abbrev pub AreAdded : (front : List Entry) → List Entry → Type 0
AreAdded front [] = Unit {0}
AreAdded front (entry ∷ entries) = IsAdded front entry × AreAdded (front ++ entry ∷ []) entries

-- no number of a request is at two places of the rounds
abbrev pub AreApart : (items : ℕ → List Entry) → Type 0
AreApart items = (number t j u k : ℕ) (x y : Item) → slice_get (items t) j ≡ Some (from_request number x) → slice_get (items u) k ≡ Some (from_request number y) → (t ≡ u) × (j ≡ k)

-- LAWFUL FACTS

-- the items that a round was closed with, none where it was not
abbrev pub closed_items : StableRound → List Entry
closed_items s = unwrap_or s.closed []

-- a round may be closed with these items: it is not closed yet, a round takes them one after the other, and with them no
-- number of a request is at two places of the closed rounds
pub record MayClose (stored : ℕ → StableRound) (second : ℕ) (entries : List Entry) : Type 0 where
  pub open_yet : (stored second).closed ≡ None
  pub added : AreAdded [] entries
  pub apart : AreApart (λ t. closed_items (with_fact (Some (fact_of second (Closed (entries)))) t (stored t)))

-- a response may be kept: the round is closed with items and has none, and where it has an item of a lower aggregator, the
-- chains leave place for the round's own
pub record MayAnswer (s : StableRound) (above : Above) : Type 0 where
  pub entries : List Entry
  pub closed : s.closed ≡ Some entries
  pub some : 0 < length entries
  pub first : s.answered ≡ None
  pub place : has_lower entries ≡ true → length above.chains ≤ 7

abbrev pub MayStore : (stored : ℕ → StableRound) → (second : ℕ) → RoundFact → Type 0
MayStore stored second (Closed entries) = MayClose stored second entries
MayStore stored second (Answered above) = MayAnswer (stored second) above

-- a fact is lawful after the stable parts of all rounds; its second is below 2^63
pub record IsLawful (stored : ℕ → StableRound) (fact : Fact) : Type 0 where
  pub below : fact.second < 2 ^ 63
  pub what : MayStore stored fact.second fact.what

-- each of the facts is lawful after those before it
abbrev pub AreLawful : List Fact → Type 0
AreLawful facts = (k : ℕ) (fact : Fact) → slice_get facts k ≡ Some fact → IsLawful (stored_by (take k facts)) fact
