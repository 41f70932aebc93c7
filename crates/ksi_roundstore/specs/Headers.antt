-- The header of an aggregator's file.
use Rattle.std.specs.Int.{w32, w64, from_be_bytes, to_be_bytes}
use Rattle.std.specs.Prelude.{ℕ, nat_le, ◌&&◌, bytes_eq, if◌then◌else◌, List, [], ◌∷◌, ◌++◌, length, take, drop, Option, Some, None}
use Rattle.ksi_roundstore.specs.declared.heads.Header.{Header}

-- KSIROUN1
abbrev pub magic : List ℕ
magic = 75 ∷ 83 ∷ 73 ∷ 82 ∷ 79 ∷ 85 ∷ 78 ∷ 49 ∷ []

-- a header: the magic, the aggregator's number in four bytes, the first second of the plan in eight
abbrev pub header_text : (me start : ℕ) → List ℕ
header_text me start = magic ++ (to_be_bytes w32 me ++ to_be_bytes w64 start)

-- the meaning of the first 20 bytes
abbrev pub header_at : List ℕ → Option Header
header_at bytes =
    if nat_le 20 (length bytes) && bytes_eq (take 8 bytes) magic
    then Some (record { aggregator = from_be_bytes w32 (take 4 (drop 8 bytes)); start = from_be_bytes w64 (take 8 (drop 4 (drop 8 bytes))) })
    else None

-- the file of an aggregator without facts: a header, and a closed commit byte
abbrev pub empty_file : (me start : ℕ) → List ℕ
empty_file me start = header_text me start ++ 0 ∷ []
