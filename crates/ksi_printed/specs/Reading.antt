-- The publication of a printed text, or why it is none. By the laws `printed_is_read` and `read_is_printed` a text is read
-- exactly if it is printed, up to case, spaces and line breaks.
use Rattle.std.specs.Prelude.{ℕ, zero, suc, ◌+◌, ◌-◌, ◌*◌, ◌/◌, ◌%◌, ◌==◌, ◌&&◌, ◌||◌, nat_le, Bool, List, [], ◌∷◌, ◌++◌, take, drop, length, slice_index, Option, Some, None, Result, Ok, Err, if◌then◌else◌}
use Rattle.std.specs.Str.{bytes_eq}
use Rattle.ksi_printed.specs.declared.fault.PrintFault.{PrintFault}
use Rattle.ksi_printed.specs.declared.fault.PrintFault.TheVariants.{Characters, Group, Sum, Date}
use Rattle.ksi_printed.specs.Groups.{number_in}
use Rattle.ksi_printed.specs.Printed.{printed}

-- ---- up to case, spaces and line breaks

-- a space, a tab, a line feed or a carriage return
abbrev pub is_blank : ℕ → Bool
is_blank c = c == 32 || c == 9 || c == 10 || c == 13

-- a letter of ASCII in upper case, any other byte as it is
abbrev pub upper : ℕ → ℕ
upper c = if nat_le 97 c && nat_le c 122 then c - 32 else c

abbrev pub bare_of : ℕ → List ℕ
bare_of c = if is_blank c then [] else upper c ∷ []

abbrev pub bare : List ℕ → List ℕ
bare [] = []
bare (c ∷ text) = bare_of c ++ bare text

-- ---- the numbers of the groups

abbrev pub number_then : ℕ → Option ℕ → (ℕ → Result (List ℕ) PrintFault) → Result (List ℕ) PrintFault
number_then k None next = Err (Group (k + 1))
number_then k (Some n) next = next n

-- these numbers, and those of n more groups, of which the first is group k
unfoldable pub numbers_from : List ℕ → (k n : ℕ) → List ℕ → Result (List ℕ) PrintFault
numbers_from ns k zero text = Ok ns
numbers_from ns k (suc n) text = number_then k (number_in text) (λ m. numbers_from (ns ++ m ∷ []) (k + 1) n (drop 5 text))

-- ---- the publication of the numbers

-- the number that four hexadecimal digits are in decimal
abbrev pub of_decimals : ℕ → ℕ
of_decimals n = 1000 * (n / 4096) + 100 * (n / 256 % 16) + 10 * (n / 16 % 16) + n % 16

abbrev pub second_of : List ℕ → ℕ
second_of ns = 100000000 * of_decimals (slice_index ns 0) + 10000 * of_decimals (slice_index ns 1) + of_decimals (slice_index ns 2)

-- the two bytes of each number
abbrev pub bytes_of : List ℕ → List ℕ
bytes_of [] = []
bytes_of (n ∷ ns) = n / 256 ∷ n % 256 ∷ bytes_of ns

abbrev pub root_of : List ℕ → List ℕ
root_of ns = 1 ∷ bytes_of (take 16 (drop 3 ns))

-- ---- the text

-- the publication, if it is printed like this; else the last two groups have another sum, or the first line differs
abbrev pub compared : (text again : List ℕ) → ℕ × List ℕ → Result (ℕ × List ℕ) PrintFault
compared text again publication =
    if bytes_eq text again then Ok publication
    else if bytes_eq (drop 125 text) (drop 125 again) then Err Date
    else Err Sum

abbrev pub reading_of : List ℕ → Result (List ℕ) PrintFault → Result (ℕ × List ℕ) PrintFault
reading_of text (Err fault) = Err fault
reading_of text (Ok ns) = compared text (bare (printed (second_of ns) (root_of ns))) (second_of ns, root_of ns)

-- the publication of a text without spaces and line breaks, in upper case
unfoldable pub reading : List ℕ → Result (ℕ × List ℕ) PrintFault
reading text = if length text == 135 then reading_of text (numbers_from [] 0 21 (drop 30 text)) else Err (Characters (length text))
