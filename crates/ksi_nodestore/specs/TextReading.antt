-- Reading an encoding, piece by piece.
use Rattle.std.specs.Int.{w32, w64, from_be_bytes}
use Rattle.std.specs.Prelude.{◌≡◌, ℕ, zero, suc, ◌+◌, ◌≤◌, ◌==◌, nat_le, ◌&&◌, Bool, if◌then◌else◌, List, [], ◌∷◌, ◌++◌, length, take, drop, slice_index, option_map, Option, Some, None, Result, Ok, Err}
use Rattle.ksi_imprint.specs.Reading.{imprint_at}
use Rattle.ksi_imprint.specs.declared.fault.ImprintFault.{ImprintFault}
use Rattle.ksi_aggtree.specs.declared.entries.Entry.{Entry}
use Rattle.ksi_aggtree.specs.declared.entries.Origin.TheVariants as origins
use Rattle.ksi_aggtree.specs.Names.{are_name_bytes, most_letters}
use Rattle.ksi_corenode.specs.declared.fact.What.{What}
use Rattle.ksi_corenode.specs.declared.fact.What.TheVariants.{Sealed, Tried, Promised, Cast, Holds}
use Rattle.ksi_corenode.specs.declared.fact.Fact.{Fact}
use Rattle.ksi_corenode.specs.Facts.{fact_of}
use Rattle.ksi_nodestore.specs.Texts.{entry_text, IsSpelled}

abbrev pub is_name : List ℕ → Bool
is_name bytes = nat_le 1 (length bytes) && nat_le (length bytes) most_letters && are_name_bytes bytes

-- a name of n bytes at the start of the bytes; None if there are fewer
abbrev pub name_in : ℕ → List ℕ → Option (Option (List ℕ))
name_in count bytes = if nat_le count (length bytes) && is_name (take count bytes) then Some (Some (take count bytes)) else None

abbrev pub name_at : ℕ → List ℕ → Option (Option (List ℕ))
name_at count bytes = if count == 0 then Some None else name_in count bytes

-- an item from its parts
abbrev pub entry_of : (from : ℕ) → Result (List ℕ) ImprintFault → (level : ℕ) → Option (Option (List ℕ)) → Option Entry
entry_of from (Err fault) level name = None
entry_of from (Ok imprint) level None = None
entry_of from (Ok imprint) level (Some name) = Some (record { origin = origins.Aggregator from; item = record { imprint = imprint; level = level; name = name } })

-- the rest of an item after its aggregator, from its imprint on
abbrev pub entry_behind : (from : ℕ) → List ℕ → Option Entry
entry_behind from bytes = entry_of from (imprint_at (take 33 bytes)) (slice_index (drop 33 bytes) 0) (name_at (slice_index (drop 33 bytes) 1) (drop 2 (drop 33 bytes)))

-- the item at the start of the bytes
unfoldable pub entry_at : List ℕ → Option Entry
entry_at bytes = if nat_le 39 (length bytes) then entry_behind (from_be_bytes w32 (take 4 bytes)) (drop 4 bytes) else None

-- exactly n items, and no bytes after them
abbrev pub more_entries : (List ℕ → Option (List Entry)) → List ℕ → Option Entry → Option (List Entry)
more_entries others bytes None = None
more_entries others bytes (Some entry) = option_map (λ (entries : List Entry). entry ∷ entries) (others (drop (length (entry_text entry)) bytes))

abbrev pub entries_at : ℕ → List ℕ → Option (List Entry)
entries_at zero [] = Some []
entries_at zero (byte ∷ bytes) = None
entries_at (suc count) bytes = more_entries (entries_at count) bytes (entry_at bytes)

abbrev pub sealed_at : List ℕ → Option What
sealed_at bytes = if nat_le 4 (length bytes) then option_map (λ (items : List Entry). Sealed items) (entries_at (from_be_bytes w32 (take 4 bytes)) (drop 4 bytes)) else None

abbrev pub ballot_at : List ℕ → Option ℕ
ballot_at bytes = if length bytes == 8 then Some (from_be_bytes w64 (take 8 bytes)) else None

abbrev pub vote_of : ℕ → Result (List ℕ) ImprintFault → Option What
vote_of ballot (Err fault) = None
vote_of ballot (Ok imprint) = Some (Cast (record { ballot = ballot; imprint = imprint }))

abbrev pub cast_at : List ℕ → Option What
cast_at bytes = if nat_le 8 (length bytes) then vote_of (from_be_bytes w64 (take 8 bytes)) (imprint_at (drop 8 bytes)) else None

abbrev pub root_of : Result (List ℕ) ImprintFault → Option What
root_of (Err fault) = None
root_of (Ok imprint) = Some (Holds imprint)

-- the kind of fact that this byte announces, read from the bytes
abbrev pub what_at : (tag : ℕ) → List ℕ → Option What
what_at tag bytes =
    if tag == 1 then sealed_at bytes
    else if tag == 2 then option_map (λ (ballot : ℕ). Tried ballot) (ballot_at bytes)
    else if tag == 3 then option_map (λ (ballot : ℕ). Promised ballot) (ballot_at bytes)
    else if tag == 4 then cast_at bytes
    else if tag == 5 then root_of (imprint_at bytes)
    else None

abbrev pub fact_at : List ℕ → Option Fact
fact_at bytes =
    if nat_le 9 (length bytes)
    then option_map (fact_of (from_be_bytes w64 (take 8 (drop 1 bytes)))) (what_at (slice_index bytes 0) (drop 9 bytes))
    else None

-- one more item was read, and the place after it; None if there is none
abbrev pub IsMore : List ℕ → ℕ → List Entry → List Entry → Option ℕ → Type 0
IsMore bytes place old new None = entry_at (drop place bytes) ≡ None
IsMore bytes place old new (Some next) =
    (entry : Entry) × (entry_at (drop place bytes) ≡ Some entry) × IsSpelled entry × (take (length (entry_text entry)) (drop place bytes) ≡ entry_text entry)
    × (new ≡ old ++ entry ∷ []) × (next ≡ place + length (entry_text entry)) × (next ≤ length bytes)
