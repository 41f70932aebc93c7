-- The place at which a chain is inserted among chains.
use Rattle.std.specs.Prelude.{ℕ, ◌+◌, nat_lt, length, List, [], ◌∷◌, if◌then◌else◌}
use Rattle.ksi_signature.specs.Values.{Aggregation}

-- the place of the first chain that has fewer index parts than a number, or the end
abbrev pub place_of : ℕ → List Aggregation → ℕ
place_of parts [] = 0
place_of parts (chain ∷ chains) = if nat_lt (length chain.index) parts then 0 else 1 + place_of parts chains
