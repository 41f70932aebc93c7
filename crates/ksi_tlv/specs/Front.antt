-- The first element of bytes, read from left to right. The law `front_by_spelling` says that it is the element
-- that these bytes encode.
use Rattle.std.specs.Prelude.{ℕ, ◌+◌, ◌*◌, ◌/◌, ◌%◌, nat_lt, ◌==◌, List, [], ◌∷◌, length, take, drop, Result, Ok, Err, if◌then◌else◌}
use Rattle.ksi_tlv.specs.Spelling.{Tlv}

-- the size of a short form, from the bytes after its first
abbrev pub short_size : List ℕ → ℕ
short_size [] = 2
short_size (count ∷ body) = 2 + count

-- the size of a long form, from the bytes after its first
abbrev pub long_size : List ℕ → ℕ
long_size [] = 4
long_size (low ∷ []) = 4
long_size (low ∷ high_count ∷ []) = 4
long_size (low ∷ high_count ∷ low_count ∷ body) = 4 + (256 * high_count + low_count)

-- How many bytes the first element takes, as far as the bytes show: at least 2, at least 4 in the long form, and if
-- the header is complete, the header and the length in it.
unfoldable pub size_at : List ℕ → ℕ
size_at [] = 2
size_at (first ∷ rest) = if nat_lt first 128 then short_size rest else long_size rest

-- a header: the first byte, the kind, the size of the header, and the length of the body
pub record Front : Type 0 where
  pub first : ℕ
  pub kind : ℕ
  pub size : ℕ
  pub count : ℕ

abbrev pub short_header : ℕ → List ℕ → Result Front ℕ
short_header first [] = Err 2
short_header first (count ∷ rest) = Ok (record { first = first; kind = first % 32; size = 2; count = count })

abbrev pub long_header : ℕ → List ℕ → Result Front ℕ
long_header first [] = Err 4
long_header first (low ∷ []) = Err 4
long_header first (low ∷ high_count ∷ []) = Err 4
long_header first (low ∷ high_count ∷ low_count ∷ rest) =
    Ok (record { first = first; kind = 256 * (first % 32) + low; size = 4; count = 256 * high_count + low_count })

-- the header at the beginning, or how many bytes it takes if it is cut off
unfoldable pub header_at : List ℕ → Result Front ℕ
header_at [] = Err 2
header_at (first ∷ rest) = if nat_lt first 128 then short_header first rest else long_header first rest

-- the element with this header
abbrev pub element_with : Front → List ℕ → Tlv
element_with h bytes =
    record { kind = h.kind; non_critical = h.first / 64 % 2 == 1; forward = h.first / 32 % 2 == 1; body = take h.count (drop h.size bytes) }

abbrev pub behind_header : List ℕ → Result Front ℕ → Result (Tlv × ℕ) ℕ
behind_header bytes (Err need) = Err need
behind_header bytes (Ok h) = if nat_lt (length bytes) (h.size + h.count) then Err (h.size + h.count) else Ok (element_with h bytes, h.size + h.count)

-- the first element and how many bytes it takes, or how many it would take if there are fewer
unfoldable pub element_at : List ℕ → Result (Tlv × ℕ) ℕ
element_at bytes = behind_header bytes (header_at bytes)
