-- Groups: four hexadecimal digits and a check character.
use Rattle.std.specs.Prelude.{ℕ, ◌+◌, ◌-◌, ◌*◌, ◌/◌, ◌%◌, ◌==◌, ◌&&◌, nat_le, nat_lt, Bool, List, [], ◌∷◌, slice_index, Option, Some, None, if◌then◌else◌}

-- the character of a value: 0 to 9, A to F, and X for 16
abbrev pub character : ℕ → ℕ
character v = if nat_lt v 10 then 48 + v else if nat_lt v 16 then 55 + v else 88

-- the value of a character, 17 if it has none
abbrev pub value : ℕ → ℕ
value c =
    if nat_le 48 c && nat_le c 57 then c - 48
    else if nat_le 65 c && nat_le c 70 then c - 55
    else if c == 88 then 16
    else 17

-- the check of four digits: it makes 5 a + 4 b + 3 c + 2 d + e a multiple of 17 (ISBN-10 does the same modulo 11)
abbrev pub check_of : (a b c d : ℕ) → ℕ
check_of a b c d = (17 - (5 * a + 4 * b + 3 * c + 2 * d) % 17) % 17

abbrev pub with_check : (a b c d : ℕ) → List ℕ
with_check a b c d = character a ∷ character b ∷ character c ∷ character d ∷ character (check_of a b c d) ∷ []

-- the group of a number below 65,536
unfoldable pub group_text : ℕ → List ℕ
group_text n = with_check (n / 4096) (n / 256 % 16) (n / 16 % 16) (n % 16)

-- ---- reading

abbrev pub is_right : (a b c d e : ℕ) → Bool
is_right a b c d e = nat_lt a 16 && nat_lt b 16 && nat_lt c 16 && nat_lt d 16 && nat_lt e 17 && (5 * a + 4 * b + 3 * c + 2 * d + e) % 17 == 0

abbrev pub number_of : (a b c d e : ℕ) → Option ℕ
number_of a b c d e = if is_right a b c d e then Some (4096 * a + 256 * b + 16 * c + d) else None

-- the number of the group that a text begins with, none if the check fails
unfoldable pub number_in : List ℕ → Option ℕ
number_in text =
    number_of (value (slice_index text 0)) (value (slice_index text 1)) (value (slice_index text 2)) (value (slice_index text 3))
    (value (slice_index text 4))
