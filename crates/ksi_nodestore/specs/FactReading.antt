-- The facts that records encode, as a function of the records.
use Rattle.std.specs.Prelude.{ℕ, ◌+◌, ◌^◌, true, ◌==◌, nat_le, nat_lt, ◌&&◌, not, Bool, is_some, if◌then◌else◌, List, [], ◌∷◌, ◌++◌, length, Option, Some, None, Result, Ok, Err}
use Rattle.std.specs.List.{list_all}
use Rattle.ksi_aggtree.specs.Rounds.{most_items}
use Rattle.ksi_synod.specs.Rows.{is_older}
use Rattle.ksi_corenode.specs.declared.fact.What.{What}
use Rattle.ksi_corenode.specs.declared.fact.What.TheVariants.{Sealed, Tried, Promised, Cast, Holds}
use Rattle.ksi_corenode.specs.declared.fact.Fact.{Fact}
use Rattle.ksi_corenode.specs.Facts.{StableState}
use Rattle.ksi_corenode.specs.Owners.{owner_of}
use Rattle.ksi_corenode.specs.Lawful.{is_fit, stored_by}
use Rattle.ksi_nodestore.specs.TextReading.{fact_at}

abbrev pub is_ballot : ℕ → Bool
is_ballot ballot = nat_le 16 ballot && nat_lt ballot (2 ^ 36)

-- whether this may be stored for a second, given its stable part
abbrev pub may_store : StableState → What → Bool
may_store s (Sealed items) = not (is_some s.sealed) && (nat_le (length items) most_items && list_all is_fit items)
may_store s (Tried ballot) = is_some s.sealed && (nat_lt s.tried ballot && is_ballot ballot)
may_store s (Promised ballot) = nat_lt s.promised ballot && is_ballot ballot
may_store s (Cast vote) = (vote.ballot == s.promised) && (is_older s.vote vote.ballot && is_ballot vote.ballot)
may_store s (Holds root) = not (is_some s.held)

-- whether the ballot that is stored, if any, belongs to one of this many cores
abbrev pub stores_owned : (cores : ℕ) → What → Bool
stores_owned cores (Sealed items) = true
stores_owned cores (Tried ballot) = nat_lt (owner_of ballot) cores
stores_owned cores (Promised ballot) = nat_lt (owner_of ballot) cores
stores_owned cores (Cast vote) = nat_lt (owner_of vote.ballot) cores
stores_owned cores (Holds root) = true

-- whether a fact is valid, given the stable part of its second
abbrev pub is_lawful : (cores start : ℕ) → StableState → Fact → Bool
is_lawful cores start s fact = nat_le start fact.second && (nat_lt fact.second (2 ^ 63) && (stores_owned cores fact.what && may_store s fact.what))

abbrev pub where_lawful : (cores start : ℕ) → List Fact → Option Fact → Option Fact
where_lawful cores start facts None = None
where_lawful cores start facts (Some fact) = if is_lawful cores start (stored_by facts fact.second) fact then Some fact else None

-- the fact that a content encodes, if it is valid after these facts
abbrev pub next_fact : (cores start : ℕ) → List Fact → List ℕ → Option Fact
next_fact cores start facts content = where_lawful cores start facts (fact_at content)

-- the record at a place encodes this fact, or is refused
abbrev pub gone_on : (others : List Fact → ℕ → Result (List Fact) ℕ) → List Fact → (place : ℕ) → List ℕ → Option Fact → Result (List Fact) ℕ
gone_on others facts place content None = Err place
gone_on others facts place content (Some fact) = others (facts ++ fact ∷ []) (place + (5 + length content))

-- these facts followed by those that the records from a place on encode, each valid after those before it; or the place of
-- the first record that encodes none
abbrev pub facts_read : (cores start : ℕ) → List (List ℕ) → List Fact → (place : ℕ) → Result (List Fact) ℕ
facts_read cores start [] facts place = Ok facts
facts_read cores start (content ∷ contents) facts place = gone_on (facts_read cores start contents) facts place content (next_fact cores start facts content)
