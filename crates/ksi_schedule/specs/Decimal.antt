-- Numbers as words: 1 to 20 decimal digits, leading zeros allowed.
use Rattle.std.specs.Prelude.{ℕ, ◌+◌, ◌-◌, ◌*◌, ◌^◌, List, [], ◌∷◌, length, ◌&&◌, nat_lt, nat_le, Option, Some, None, if◌then◌else◌}
use Rattle.std.specs.Char.{is_ascii_digit}
use Rattle.std.specs.List.{list_all}
use Rattle.std.specs.Str.Parse.{digits_value}

-- the number of 1 to 20 decimal digits that is at most 2^64 - 1
unfoldable pub number_of : List ℕ → Option ℕ
number_of word =
    if nat_lt 0 (length word) && nat_le (length word) 20 && list_all is_ascii_digit word && nat_lt (digits_value 10 word) (2 ^ 64)
    then Some (digits_value 10 word) else None

-- ---- in the code

-- the number that digits make after those of n, while it stays below 2^64
abbrev pub digits_after : ℕ → List ℕ → Option ℕ
digits_after n [] = Some n
digits_after n (c ∷ cs) = if is_ascii_digit c && nat_lt (10 * n + (c - 48)) (2 ^ 64) then digits_after (10 * n + (c - 48)) cs else None
