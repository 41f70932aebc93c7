-- Who votes from a second on, and the bits that say so in a journal.
use Rattle.std.specs.Prelude.{ℕ, ◌^◌, ◌==◌, Bool, List}
use Rattle.std.specs.List.{filter, sum_by}
use Rattle.std.specs.Int.{bit_at}
use Rattle.ksi_synod.specs.Voters.{cores_below}

-- the number in which core j is bit j
unfoldable pub bits_of : (voters : List ℕ) → ℕ
bits_of voters = sum_by (λ core. 2 ^ core) voters

-- whether a core's bit is 1
abbrev pub is_bit : (bits core : ℕ) → Bool
is_bit bits core = bit_at bits core == 1

-- the cores 0 to 8 whose bit is 1, rising
unfoldable pub cores_in : (bits : ℕ) → List ℕ
cores_in bits = filter (is_bit bits) (cores_below 9)
