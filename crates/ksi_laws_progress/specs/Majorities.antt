-- Majorities of the voters.
use Rattle.std.specs.Prelude.{◌≡◌, ℕ, ◌+◌, ◌*◌, ◌<◌, ◌≤◌, true, false, List, [], ◌∷◌, length, Option, Some, None}
use Rattle.ksi_synod.specs.declared.messages.Vote.{Vote}
use Rattle.ksi_synod.specs.Rows.{greater_vote}
use Rattle.ksi_synod.specs.Voters.{is_voter}

-- none occurs twice
abbrev pub AreDistinct : List ℕ → Type 0
AreDistinct [] = Unit {0}
AreDistinct (x ∷ xs) = (is_voter xs x ≡ false) × AreDistinct xs

-- more than half of the voters, each of them once
pub record IsMajority (voters some : List ℕ) : Type 0 where
  pub distinct : AreDistinct some
  pub vote : (core : ℕ) → is_voter some core ≡ true → is_voter voters core ≡ true
  pub most : length voters < 2 * length some

-- without one of them they are no majority
abbrev pub IsLeast : (voters some : List ℕ) → Type 0
IsLeast voters some = 2 * length some ≤ length voters + 2

-- the greatest of this vote and those of some cores; of two in one ballot the first
abbrev pub greatest_from : (vote : ℕ → Option Vote) → Option Vote → (some : List ℕ) → Option Vote
greatest_from vote greatest [] = greatest
greatest_from vote greatest (k ∷ ks) = greatest_from vote (greater_vote greatest (vote k)) ks

-- the result of a ballot: the imprint of the greatest vote, or the candidate if there is none
abbrev pub root_by : Option Vote → (candidate : List ℕ) → List ℕ
root_by None candidate = candidate
root_by (Some vote) candidate = vote.imprint
