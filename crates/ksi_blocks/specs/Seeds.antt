-- The seed of a file: 64 hex digits in lower case, and perhaps a line feed.
use Rattle.std.specs.Prelude.{ℕ, ◌==◌, nat_le, ◌&&◌, ◌||◌, Bool, true, false, List, [], ◌∷◌, length, take, drop, Option, Some, None, Ok, Err, if◌then◌else◌}
use Rattle.std.specs.List.{list_all}
use Rattle.ksi_words.specs.Sorts.{seed_of}
use Rattle.ksi_blocks.specs.Reports.{bad_seed}
use Rattle.ksi_blocks.specs.Loading.{Outcome, loaded, ◌>>=◌}

-- 0 to 9, or a to f
abbrev pub is_lower_digit : ℕ → Bool
is_lower_digit digit = (nat_le 48 digit && nat_le digit 57) || (nat_le 97 digit && nat_le digit 102)

-- nothing, or a line feed
abbrev pub is_end : List ℕ → Bool
is_end [] = true
is_end (byte ∷ []) = byte == 10
is_end (byte ∷ next ∷ others) = false

-- the seed of a word that has no digits in upper case
abbrev pub lower_seed : List ℕ → Option (List ℕ)
lower_seed digits = if list_all is_lower_digit digits then seed_of digits else None

-- the seed that the bytes of a file encode
unfoldable pub seed_in : List ℕ → Option (List ℕ)
seed_in text = if nat_le 64 (length text) && is_end (drop 64 text) then lower_seed (take 64 text) else None

-- ---- the file of word 2

abbrev pub seed_or_bad : Option (List ℕ) → Outcome (List ℕ)
seed_or_bad None = Err (Some bad_seed)
seed_or_bad (Some seed) = Ok seed

abbrev pub seed_loaded : Option (List ℕ) → Outcome (List ℕ)
seed_loaded held = loaded 2 65 held >>= λ text. seed_or_bad (seed_in text)
