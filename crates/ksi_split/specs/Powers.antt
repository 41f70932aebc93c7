-- Powers of two, and the split of a number of leaves.
use Rattle.std.specs.Prelude.{ℕ, zero, suc, ◌+◌, ◌*◌, ◌^◌, ◌<◌, ◌≤◌, nat_lt, if◌then◌else◌}
use Rattle.std.specs.Int.{IsPowerOfTwo}

-- k is the greatest power of two below n
pub record IsSplit (n k : ℕ) : Type 0 where
  pub power : IsPowerOfTwo k
  pub below : k < n
  pub greatest : n ≤ 2 * k

-- k is the greatest power of two that is at most n
pub record IsHighBit (n k : ℕ) : Type 0 where
  pub power : IsPowerOfTwo k
  pub most : k ≤ n
  pub greatest : n < 2 * k

-- the greatest power of two below n, for n above 1 and at most 2 ^ levels
unfoldable pub split_within : ℕ → ℕ → ℕ
split_within zero n = 1
split_within (suc level) n = if nat_lt (2 ^ level) n then 2 ^ level else split_within level n

-- the greatest power of two below n, for n above 1: the k of RFC 9162, 2.1.1
unfoldable pub split_of : ℕ → ℕ
split_of n = split_within n n

-- the greatest power of two that is at most n, for n above 0
abbrev pub high_bit_of : ℕ → ℕ
high_bit_of n = split_of (n + 1)
