-- Finite maps, by what they have under each key, and their union. The law `unions_join` says what this comes to.
use Rattle.std.specs.Prelude.{◌≡◌, ℕ, ◌==◌, List, [], ◌∷◌, Option, Some, None, if◌then◌else◌}

-- the value of a key in a list of entries
abbrev pub entry_at : {A : Type 0} → (A → ℕ) → List A → ℕ → Option A
entry_at key [] k = None
entry_at key (x ∷ xs) k = if key x == k then Some x else entry_at key xs k

-- the first, if there is one, otherwise the second
abbrev pub or_else : {A : Type 0} → Option A → Option A → Option A
or_else None later = later
or_else (Some x) later = Some x

-- both are the same, where there are both
abbrev pub Agree : {A : Type 0} → Option A → Option A → Type 0
Agree None other = Unit {0}
Agree (Some x) None = Unit {0}
Agree (Some x) (Some y) = x ≡ y

-- they have nothing different under a key
abbrev pub AgreeAll : {A : Type 0} → (ℕ → Option A) → (ℕ → Option A) → Type 0
AgreeAll f g = (k : ℕ) → Agree (f k) (g k)

-- it has under each key what either has
abbrev pub HasBoth : {A : Type 0} → (ℕ → Option A) → (ℕ → Option A) → (ℕ → Option A) → Type 0
HasBoth f g h = (k : ℕ) → h k ≡ or_else (f k) (g k)

-- the union of two maps that agree
pub record IsUnion {A : Type 0} (f g h : ℕ → Option A) : Type 0 where
  pub agree : AgreeAll f g
  pub both : HasBoth f g h
