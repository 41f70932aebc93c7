-- The sorts of words after a command's name, and the meaning of a word of each.
use Rattle.std.specs.Prelude.{ℕ, ◌^◌, List, drop, nat_lt, option_map, Option, Some, None, Result, Ok, Err, if◌then◌else◌}
use Rattle.ksi_schedule.specs.Decimal.{number_of}
use Rattle.ksi_imprint.specs.Reading.{hex_at}
use Rattle.ksi_imprint.specs.declared.fault.HexFault.{HexFault}

pub data Sort : Type 0 where
  file_word : Sort
  hash_word : Sort
  number_word : Sort
  -- a number below 2^63
  time_word : Sort
  seed_word : Sort

-- the number, where it is below 2^63
abbrev pub if_early : Option ℕ → Option ℕ
if_early None = None
if_early (Some n) = if nat_lt n (2 ^ 63) then Some n else None

unfoldable pub time_of : List ℕ → Option ℕ
time_of word = if_early (number_of word)

abbrev pub read_hash : Result (List ℕ) HexFault → Option (List ℕ)
read_hash (Ok imprint) = Some imprint
read_hash (Err fault) = None

-- the imprint of a digest of 64 hex digits
unfoldable pub hash_of : List ℕ → Option (List ℕ)
hash_of word = read_hash (hex_at word)

-- the 32 bytes of 64 hex digits, which are those of the digest that they write
abbrev pub seed_of : List ℕ → Option (List ℕ)
seed_of word = option_map (drop 1) (hash_of word)

-- what a word of a sort stands for: a file word stands for itself
abbrev pub Of : Sort → Type 0
Of file_word = List ℕ
Of hash_word = List ℕ
Of number_word = ℕ
Of time_word = ℕ
Of seed_word = List ℕ

abbrev pub value_of : (sort : Sort) → List ℕ → Option (Of sort)
value_of file_word word = Some word
value_of hash_word word = hash_of word
value_of number_word word = number_of word
value_of time_word word = time_of word
value_of seed_word word = seed_of word
