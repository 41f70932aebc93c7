-- Paths: the sides from the top of a tree to its leaves, and lists of sides that are not a path. (`way` in the names.)
use Rattle.std.specs.Prelude.{◌≡◌, ℕ, zero, suc, ◌+◌, ◌-◌, ◌^◌, ◌<◌, ◌≤◌, ◌↔◌, nat_lt, if◌then◌else◌, List, [], ◌∷◌, ◌++◌, take, length}
use Rattle.ksi_split.specs.Powers.{IsSplit}
use Rattle.ksi_split.specs.declared.side.Side.{Side}
use Rattle.ksi_split.specs.declared.side.Side.TheVariants.{Left, Right}

-- the sides are the path to leaf t of n leaves: no sides to the only leaf; else, with n split at k, left and then
-- the path among the first k leaves, or right and then the path among the others
abbrev pub IsWay : ℕ → ℕ → List Side → Type 0
IsWay t n [] = (n ≡ 1) × (t ≡ 0)
IsWay t n (Left ∷ sides) = (k : ℕ) × IsSplit n k × (t < k) × IsWay t k sides
IsWay t n (Right ∷ sides) = (k : ℕ) × IsSplit n k × (k ≤ t) × IsWay (t - k) (n - k) sides

-- the path to leaf t of n leaves, of which there are at most 2 ^ k
unfoldable pub way_within : ℕ → ℕ → ℕ → List Side
way_within zero t n = []
way_within (suc k) t n =
    if nat_lt (2 ^ k) n
    then (if nat_lt t (2 ^ k) then Left ∷ way_within k t (2 ^ k) else Right ∷ way_within k (t - 2 ^ k) (n - 2 ^ k))
    else way_within k t n

-- the path to leaf t of n leaves as a list: the only list for which `IsWay` holds
unfoldable pub way_of : ℕ → ℕ → List Side
way_of t n = way_within n t n

-- the sides are a prefix of the path to leaf t of n leaves
abbrev pub Begins : ℕ → ℕ → List Side → Type 0
Begins t n sides = (more : List Side) × IsWay t n (sides ++ more)

-- of n leaves, exactly the `count` ones from `first` have ways that begin with the sides: these lead to that part
pub record LeadsTo (n : ℕ) (sides : List Side) (first count : ℕ) : Type 0 where
  pub some : 0 < count
  pub leaves : (t : ℕ) → Begins t n sides ↔ ((first ≤ t) × (t < first + count))

-- among the seconds from 0 to p, the sides are the path to second t
pub record NamesSecond (p : ℕ) (sides : List Side) (t : ℕ) : Type 0 where
  pub within : t ≤ p
  pub way : IsWay t (p + 1) sides

-- the first `place` sides are already the path to some second from 0 to p, and more sides follow
pub record PassesLeaf (p : ℕ) (sides : List Side) (place : ℕ) : Type 0 where
  pub more : place < length sides
  pub second : ℕ
  pub reached : NamesSecond p (take place sides) second

-- the sides end too early: they lead to a part of `rest` seconds more than one
pub record EndsAbove (p : ℕ) (sides : List Side) (rest : ℕ) : Type 0 where
  pub more : 0 < rest
  pub first : ℕ
  pub part : LeadsTo (p + 1) sides first (rest + 1)
