-- The header of a node file.
use Rattle.std.specs.Int.{w64, from_be_bytes, to_be_bytes}
use Rattle.std.specs.Prelude.{ℕ, ◌-◌, ◌^◌, ◌<◌, ◌≤◌, nat_le, nat_lt, ◌&&◌, Bool, bytes_eq, if◌then◌else◌, List, [], ◌∷◌, ◌++◌, length, take, drop, slice_index, Result, Ok, Err}
use Rattle.ksi_nodestore.specs.declared.heads.Header.{Header}
use Rattle.ksi_nodestore.specs.declared.heads.HeaderFault.{HeaderFault}
use Rattle.ksi_nodestore.specs.declared.heads.HeaderFault.TheVariants.{NotFormatted, Bad}

-- KSINODE1
abbrev pub magic : List ℕ
magic = 75 ∷ 83 ∷ 73 ∷ 78 ∷ 79 ∷ 68 ∷ 69 ∷ 49 ∷ []

-- a header: the magic, the core, the number of cores, the first second in eight bytes
abbrev pub header_text : ℕ → ℕ → ℕ → List ℕ
header_text core cores start = magic ++ core ∷ cores ∷ to_be_bytes w64 start

-- a core of one to nine, and a start that leaves room for 2^24 seconds below 2^63
abbrev pub is_good : ℕ → ℕ → ℕ → Bool
is_good core cores start = nat_lt core cores && nat_le cores 9 && nat_le start (2 ^ 63 - 2 ^ 24)

pub record IsGood (header : Header) : Type 0 where
  pub member : header.core < header.cores
  pub few : header.cores ≤ 9
  pub early : header.start ≤ 2 ^ 63 - 2 ^ 24

abbrev pub good_header : ℕ → ℕ → ℕ → Result Header HeaderFault
good_header core cores start =
    if is_good core cores start then Ok (record { core = core; cores = cores; start = start }) else Err (Bad core cores start)

-- the meaning of the first 18 bytes
abbrev pub header_at : List ℕ → Result Header HeaderFault
header_at bytes =
    if nat_le 18 (length bytes) && bytes_eq (take 8 bytes) magic then good_header (slice_index bytes 8) (slice_index bytes 9) (from_be_bytes w64 (take 8 (drop 10 bytes)))
    else Err NotFormatted

-- the file of a node without facts: a header, and a closed commit byte
abbrev pub empty_file : ℕ → ℕ → ℕ → List ℕ
empty_file core cores start = header_text core cores start ++ 0 ∷ []
