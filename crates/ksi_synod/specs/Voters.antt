-- Sets of cores, as ascending lists and as flags, and majorities.
use Rattle.std.specs.Prelude.{ℕ, zero, suc, ◌*◌, Bool, false, ◌==◌, nat_lt, List, [], ◌∷◌, ◌++◌, length, replicate, slice_index_or}
use Rattle.std.specs.List.{list_any, count_by}

-- the cores below n, in ascending order
abbrev pub cores_below : ℕ → List ℕ
cores_below zero = []
cores_below (suc n) = cores_below n ++ n ∷ []

-- whether a core votes
abbrev pub is_voter : (voters : List ℕ) (core : ℕ) → Bool
is_voter voters core = list_any (λ voter. voter == core) voters

-- whether a core's flag is set
abbrev pub is_flagged : (flags : List Bool) (core : ℕ) → Bool
is_flagged flags core = slice_index_or flags core false

-- a flag for each of the cores 0 to 8, none of them set
abbrev pub no_flags : List Bool
no_flags = replicate 9 false

-- whether the cores whose flag is set are a majority of the voters
abbrev pub is_majority : (voters : List ℕ) (flags : List Bool) → Bool
is_majority voters flags = nat_lt (length voters) (2 * count_by (is_flagged flags) voters)
