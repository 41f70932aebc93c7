-- The stored form of a tree: for each level a row of complete parts.
use Rattle.std.specs.Prelude.{◌≡◌, ℕ, zero, suc, ◌+◌, ◌-◌, ◌%◌, ◌^◌, ◌<◌, ◌≤◌, nat_lt, List, [], ◌∷◌, ◌++◌, length, slice_index_or, if◌then◌else◌, Option, Some, None}
use Rattle.ksi_split.specs.Upward.{halves, whole, node}
use Rattle.ksi_split.specs.declared.tree_link.TreeLink.{TreeLink}
use Rattle.ksi_split.specs.Leaves.{leaf_at}

-- the parts of a row, and how many more it takes without a growth
pub record Stored (A : Type 0) : Type 0 where
  pub parts : List A
  pub room : ℕ

-- a function of member k of a list, or `none` past its end
abbrev pub read_or : {X Y : Type 0} → (X → Y) → Y → List X → ℕ → Y
read_or f none [] k = none
read_or f none (x ∷ xs) zero = f x
read_or f none (x ∷ xs) (suc k) = read_or f none xs k

-- the parts in row k
unfoldable pub row_at : {A : Type 0} → List (Stored A) → ℕ → List A
row_at rows k = read_or (λ row. row.parts) [] rows k

-- the free capacity of row k
unfoldable pub room_at : {A : Type 0} → List (Stored A) → ℕ → ℕ
room_at rows k = read_or (λ row. row.room) 0 rows k

-- a complete part of 2 ^ k leaves that are all `before`
unfoldable pub zero_part : {A : Type 0} → (A → A → A) → A → ℕ → A
zero_part join before zero = before
zero_part join before (suc k) = join (zero_part join before k) (zero_part join before k)

-- n complete parts of 2 ^ k leaves, from part `first` on
unfoldable pub parts : {A : Type 0} → (A → A → A) → (ℕ → A) → ℕ → ℕ → ℕ → List A
parts join leaf k first zero = []
parts join leaf k first (suc n) = parts join leaf k first n ++ whole join leaf k (first + n) ∷ []

-- the complete parts of 2 ^ k leaves among `total` leaves, without those that end before the start
abbrev pub row_of : {A : Type 0} → (A → A → A) → (ℕ → A) → ℕ → ℕ → ℕ → List A
row_of join leaf start total k = parts join leaf k (halves k start) (halves k total - halves k start)

-- the stored value of part j of 2 ^ k leaves
unfoldable pub kept_part : {A : Type 0} → (A → A → A) → A → ℕ → List (Stored A) → ℕ → ℕ → A
kept_part join before start rows k j = if nat_lt j (halves k start) then zero_part join before k else slice_index_or (row_at rows k) (j - halves k start) before

-- at the levels below top the number of parts is odd, and at top it is even
pub record EndsAt (n top : ℕ) : Type 0 where
  pub odd : (k : ℕ) → k < top → halves k n % 2 ≡ 1
  pub even : halves top n % 2 ≡ 0

-- the rows are those of the leaves; the lowest row has the leaves that were added; a row that does not exist is empty
pub record AreRows {A : Type 0} (join : A → A → A) (start : ℕ) (before : A) (rows : List (Stored A)) : Type 0 where
  pub few : start + length (row_at rows 0) ≤ 2 ^ 63
  pub each : (k : ℕ) → k < 64 → row_at rows k ≡ row_of join (leaf_at start before (row_at rows 0)) start (start + length (row_at rows 0)) k

-- the part that the last leaf is in, of each level below the root's
pub record AreBorders {A : Type 0} (join : A → A → A) (leaf : ℕ → A) (last : ℕ) (borders : List A) : Type 0 where
  pub few : length borders ≤ 63
  pub enough : last < 2 ^ length borders
  pub each : (k : ℕ) (d : A) → k < length borders → slice_index_or borders k d ≡ node join leaf last k (halves k last)

-- an optional link as a list
abbrev pub maybe_link : {A : Type 0} → Option (TreeLink A) → List (TreeLink A)
maybe_link None = []
maybe_link (Some link) = link ∷ []
