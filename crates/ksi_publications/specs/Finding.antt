-- The hash that was published for a time.
use Rattle.std.specs.Prelude.{ℕ, ◌==◌, List, [], ◌∷◌, Option, Some, None, if◌then◌else◌}

-- the hash of the first pair with the time
abbrev pub find : ℕ → List (ℕ × List ℕ) → Option (List ℕ)
find time [] = None
find time (pair ∷ pairs) = if pair.0 == time then Some pair.1 else find time pairs
