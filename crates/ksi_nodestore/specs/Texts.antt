-- The encoding of a fact, as the content of a record. Numbers are most significant byte first.
use Rattle.std.specs.Int.{w32, w64, to_be_bytes}
use Rattle.std.specs.List.{All, flat_map}
use Rattle.std.specs.Prelude.{◌≡◌, ℕ, ◌<◌, ◌^◌, true, List, [], ◌∷◌, ◌++◌, length, Option, Some, None, IfSome}
use Rattle.ksi_imprint.specs.Imprints.{IsImprint}
use Rattle.ksi_aggtree.specs.declared.entries.Entry.{Entry}
use Rattle.ksi_aggtree.specs.declared.entries.Origin.{Origin}
use Rattle.ksi_aggtree.specs.declared.entries.Origin.TheVariants as origins
use Rattle.ksi_aggtree.specs.Names.{IsName}
use Rattle.ksi_corenode.specs.declared.fact.What.{What}
use Rattle.ksi_corenode.specs.declared.fact.What.TheVariants.{Sealed, Tried, Promised, Cast, Holds}
use Rattle.ksi_corenode.specs.declared.fact.Fact.{Fact}
use Rattle.ksi_corenode.specs.Lawful.{is_submitted}

-- the number of the aggregator, or of the request, that an item came from
abbrev pub number_of : Origin → ℕ
number_of (origins.Request number) = number
number_of (origins.Aggregator from) = from

-- the length of the name in one byte, and the name; zero if there is none
abbrev pub name_text : Option (List ℕ) → List ℕ
name_text None = 0 ∷ []
name_text (Some name) = length name ∷ name

-- an item: its aggregator in four bytes, its imprint, its level in one byte, its name
abbrev pub entry_text : Entry → List ℕ
entry_text entry = to_be_bytes w32 (number_of entry.origin) ++ (entry.item.imprint ++ entry.item.level ∷ name_text entry.item.name)

-- items: their count in four bytes, then each. Ballots have eight bytes
abbrev pub what_text : What → List ℕ
what_text (Sealed items) = to_be_bytes w32 (length items) ++ flat_map entry_text items
what_text (Tried ballot) = to_be_bytes w64 ballot
what_text (Promised ballot) = to_be_bytes w64 ballot
what_text (Cast vote) = to_be_bytes w64 vote.ballot ++ vote.imprint
what_text (Holds root) = root

abbrev pub tag_of : What → ℕ
tag_of (Sealed items) = 1
tag_of (Tried ballot) = 2
tag_of (Promised ballot) = 3
tag_of (Cast vote) = 4
tag_of (Holds root) = 5

-- a fact: its kind in one byte, its second in eight, then its data
abbrev pub fact_text : Fact → List ℕ
fact_text fact = tag_of fact.what ∷ (to_be_bytes w64 fact.second ++ what_text fact.what)

-- FACTS THAT HAVE AN ENCODING

-- an item that an aggregator submitted
pub record IsSpelled (entry : Entry) : Type 0 where
  pub submitted : is_submitted entry.origin ≡ true
  pub number : number_of entry.origin < 2 ^ 32
  pub imprint : IsImprint entry.item.imprint
  pub level : entry.item.level < 2 ^ 8
  pub name : IfSome entry.item.name IsName

abbrev pub FitsWhat : What → Type 0
FitsWhat (Sealed items) = (length items < 2 ^ 32) × All IsSpelled items
FitsWhat (Tried ballot) = ballot < 2 ^ 64
FitsWhat (Promised ballot) = ballot < 2 ^ 64
FitsWhat (Cast vote) = (vote.ballot < 2 ^ 64) × IsImprint vote.imprint
FitsWhat (Holds root) = IsImprint root

-- the bytes encode this fact, each of whose numbers fits its field
pub record IsTextOf (fact : Fact) (bytes : List ℕ) : Type 0 where
  pub second : fact.second < 2 ^ 64
  pub what : FitsWhat fact.what
  pub text : bytes ≡ fact_text fact

-- the fact that the bytes encode, or None
abbrev pub IsReadOf : List ℕ → Option Fact → Type 0
IsReadOf bytes None = (fact : Fact) → IsTextOf fact bytes → ⊥
IsReadOf bytes (Some fact) = IsTextOf fact bytes
