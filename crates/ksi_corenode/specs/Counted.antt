-- Counting the numbers that satisfy a predicate.
use Rattle.std.specs.Prelude.{ℕ, zero, suc, ◌+◌, Bool, if◌then◌else◌}

-- how many numbers below this one satisfy it
unfoldable pub count_below : (so : ℕ → Bool) → ℕ → ℕ
count_below so zero = 0
count_below so (suc n) = count_below so n + (if so n then 1 else 0)
