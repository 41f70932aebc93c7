-- Numbers as bytes, the most significant first.
use Rattle.std.specs.Int.{w64, to_be_bytes}
use Rattle.std.specs.Prelude.{ℕ, zero, suc, ◌+◌, ◌*◌, ◌^◌, List, [], ◌∷◌, length}

-- the value of bytes in big-endian order
abbrev pub number_of : List ℕ → ℕ
number_of [] = 0
number_of (b ∷ bytes) = b * 256 ^ length bytes + number_of bytes

-- bytes from the first that is not zero on
abbrev pub without_zeros : List ℕ → List ℕ
without_zeros [] = []
without_zeros (zero ∷ bytes) = without_zeros bytes
without_zeros (suc b ∷ bytes) = suc b ∷ bytes

-- the shortest big-endian form of a number below 2^64, empty for zero
unfoldable pub numeral : ℕ → List ℕ
numeral n = without_zeros (to_be_bytes w64 n)
