-- How many bytes elements take as they are written, in a number of 64 bits.
use Rattle.std.specs.Prelude.{ℕ, ◌+◌, ◌-◌, ◌^◌, min, nat_lt, ◌&&◌, if◌then◌else◌}

-- a size, or 2^64 - 1 if it is more
abbrev pub capped : ℕ → ℕ
capped n = min n (2 ^ 64 - 1)

-- the size of an element of a kind, whose body has `size` bytes
abbrev pub size_of : ℕ → ℕ → ℕ
size_of kind size = if nat_lt kind 32 && nat_lt size 256 then 2 + size else 4 + size
