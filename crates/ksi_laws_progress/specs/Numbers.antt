-- Numbers of messages.
use Rattle.ksi_synod.specs.Voters.{cores_below}
use Rattle.std.specs.Prelude.{ℕ, zero, suc, ◌+◌, ◌==◌, if◌then◌else◌, List, [], ◌∷◌, ◌++◌, length, map}

-- this many numbers from this one on
abbrev pub numbers_from : (first count : ℕ) → List ℕ
numbers_from first zero = []
numbers_from first (suc n) = first ∷ numbers_from (suc first) n

-- the place of a core in a list of them
abbrev pub place_in : List ℕ → (core : ℕ) → ℕ
place_in [] core = 0
place_in (x ∷ xs) core = if x == core then 0 else suc (place_in xs core)

-- the numbers of the messages to some of these cores, where the first core's is this one
abbrev pub numbers_to : (first : ℕ) → (cores some : List ℕ) → List ℕ
numbers_to first cores some = map (λ core. first + place_in cores core) some

-- The numbers of what is delivered in a ballot, where NextBallot to the first voter has the first number. These are NextBallot
-- to each of some voters, their LastVotes, BeginBallot to them, their Voted, and Success to each core. NextBallot and
-- BeginBallot go to all voters
abbrev pub ballot_numbers : (first : ℕ) → (voters some : List ℕ) → (cores : ℕ) → List ℕ
ballot_numbers first voters some cores =
    let n = length voters in
    let m = length some in
    numbers_to first voters some
    ++ (numbers_from (first + n) m
    ++ (numbers_to (first + n + m) voters some
    ++ (numbers_from (first + n + m + n) m
    ++ numbers_to (first + n + m + n + m) (cores_below cores) (cores_below cores))))
