-- The text of a publication as it is printed.
use Rattle.std.specs.Prelude.{ℕ, suc, ◌+◌, ◌*◌, ◌/◌, ◌%◌, ◌==◌, ◌||◌, List, [], ◌∷◌, ◌++◌, drop, length, codes, if◌then◌else◌}
use Rattle.ksi_dates.specs.Dates.{basic_text}
use Rattle.ksi_printed.specs.Groups.{group_text}

-- ---- a publication as 21 numbers below 65,536

-- the last four decimal digits of a number, each as a hexadecimal digit
abbrev pub decimals : ℕ → ℕ
decimals n = 4096 * (n / 1000 % 10) + 256 * (n / 100 % 10) + 16 * (n / 10 % 10) + n % 10

-- two bytes to a number, the most significant one first
abbrev pub words : List ℕ → List ℕ
words [] = []
words (high ∷ []) = []
words (high ∷ low ∷ bytes) = (256 * high + low) ∷ words bytes

-- the twelve digits of the second, and the digest of the root
abbrev pub numbers_of : ℕ → List ℕ → List ℕ
numbers_of second root = decimals (second / 100000000) ∷ decimals (second / 10000) ∷ decimals second ∷ words (drop 1 root)

-- the sum of the numbers, each times its place from the end
abbrev pub weighed : List ℕ → ℕ
weighed [] = 0
weighed (n ∷ ns) = suc (length ns) * n + weighed ns

abbrev pub with_sum : List ℕ → List ℕ
with_sum ns = ns ++ weighed ns / 65536 ∷ weighed ns % 65536 ∷ []

-- ---- the text

-- before a group: a line feed begins the lines of the second, of both halves of the root, and of the sum; else a space
abbrev pub mark_before : ℕ → ℕ
mark_before k = if k == 0 || k == 3 || k == 11 || k == 19 then 10 else 32

-- the groups from group k on
abbrev pub groups_text : ℕ → List ℕ → List ℕ
groups_text k [] = []
groups_text k (n ∷ ns) = mark_before k ∷ group_text n ++ groups_text (suc k) ns

-- the date, and the groups
unfoldable pub printed : ℕ → List ℕ → List ℕ
printed second root = codes "KSI PUBLICATION " ++ basic_text second ++ groups_text 0 (with_sum (numbers_of second root)) ++ 10 ∷ []
