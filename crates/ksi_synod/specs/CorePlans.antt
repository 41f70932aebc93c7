-- Plans of the cores: the number of cores, the first second, and who votes on which second.
use Rattle.std.specs.Prelude.{ℕ, ◌+◌, ◌-◌, ◌^◌, ◌<◌, ◌≤◌, Bool, ◌&&◌, nat_lt, nat_le, if◌then◌else◌, List, [], ◌∷◌, ◌++◌, length, map}
use Rattle.std.specs.List.{AllByRecursion, list_all}
use Rattle.ksi_synod.specs.Voters.{cores_below}
use Rattle.ksi_synod.specs.declared.core_plan.VotersFrom.{VotersFrom}

-- the number of cores, the first second, and pairs of a second and the cores that vote from it on
pub record CorePlanState : Type 0 where
  pub cores : ℕ
  pub start : ℕ
  pub voters : List VotersFrom

-- the voters of the last pair whose second is at most this one, or `others` if there is no such pair
abbrev pub voters_among : (others : List ℕ) → List VotersFrom → (second : ℕ) → List ℕ
voters_among others [] second = others
voters_among others (pair ∷ pairs) second = voters_among (if nat_le pair.second second then pair.voters else others) pairs second

-- who votes on a second: all cores before the first pair
abbrev pub voters_of : CorePlanState → (second : ℕ) → List ℕ
voters_of plan second = voters_among (cores_below plan.cores) plan.voters second

-- ---- limits

-- strictly ascending: each is less than all that follow it
abbrev pub AreRising : List ℕ → Type 0
AreRising [] = Unit {0}
AreRising (x ∷ xs) = AllByRecursion (λ y. x < y) xs × AreRising xs

-- at least one core, in ascending order, each of them in the plan
pub record AreVoters (cores : ℕ) (voters : List ℕ) : Type 0 where
  pub some : 0 < length voters
  pub rising : AreRising voters
  pub there : AllByRecursion (λ core. core < cores) voters

-- the second is one of the 2^24 from the start on, and its voters are cores of the plan
pub record IsPair (cores start : ℕ) (pair : VotersFrom) : Type 0 where
  pub early : start ≤ pair.second
  pub late : pair.second < start + 2 ^ 24
  pub voters : AreVoters cores pair.voters

-- one to nine cores, a start that leaves room for 2^24 seconds below 2^63, and at most 256 pairs in ascending order of seconds
pub record IsCorePlan (plan : CorePlanState) : Type 0 where
  pub some : 1 ≤ plan.cores
  pub few : plan.cores ≤ 9
  pub early : plan.start ≤ 2 ^ 63 - 2 ^ 24
  pub many : length plan.voters ≤ 256
  pub rising : AreRising (map (λ pair. pair.second) plan.voters)
  pub pairs : AllByRecursion (IsPair plan.cores plan.start) plan.voters

-- whether a pair of this second may be appended: there are fewer than 256 pairs, and all their seconds are less
abbrev pub has_room : CorePlanState → (second : ℕ) → Bool
has_room plan second = nat_lt (length plan.voters) 256 && list_all (λ pair. nat_lt pair.second second) plan.voters

-- the plan in which these cores vote from the second on
abbrev pub with_voters : CorePlanState → (second : ℕ) → (voters : List ℕ) → CorePlanState
with_voters plan second voters = record plan { voters = plan.voters ++ record { second = second; voters = voters } ∷ [] }
