-- Ballot numbers: 16 * round + core, with rounds from 1 to 2^32 - 1.
use Rattle.std.specs.Prelude.{ℕ, ◌+◌, ◌*◌, ◌/◌, ◌^◌, ◌<◌, ◌≤◌, ◌==◌, if◌then◌else◌, Option, Some, None}

-- the number of a core's ballot in a round
abbrev pub ballot_number : (round core : ℕ) → ℕ
ballot_number round core = 16 * round + core

-- the round of a ballot
abbrev pub round_of : (ballot : ℕ) → ℕ
round_of ballot = ballot / 16

-- the greatest round, 2^32 - 1
abbrev pub last_round : ℕ
last_round = 4294967295

-- its round is one of those
abbrev pub IsBallot : ℕ → Type 0
IsBallot ballot = (16 ≤ ballot) × (ballot < 2 ^ 36)

-- a ballot number, or 0 for no ballot
abbrev pub some_ballot : ℕ → Option ℕ
some_ballot ballot = if ballot == 0 then None else Some ballot
