-- The least entry of two lists, for the proof of the code that merges them.
use Rattle.std.specs.Prelude.{◌≡◌, ◌≢◌, ℕ, ◌<◌, ◌≤◌, ◌+◌, List, [], length, map, Option, Some, None, Result, Ok, Err}
use Rattle.std.specs.Borrow.{Bor}
use Rattle.ksi_journal.specs.Journal.{RiseFrom}
use Rattle.ksi_mirror.specs.Maps.{Agree, entry_at, or_else}

-- of two entries of one key, in two maps that agree before it
pub record DifferFirst {A : Type 0} (key : A → ℕ) (xs ys : List A) (x y : A) : Type 0 where
  pub first : entry_at key xs (key x) ≡ Some x
  pub second : entry_at key ys (key x) ≡ Some y
  pub other : x ≢ y
  pub before : (k : ℕ) → k < key x → Agree (entry_at key xs k) (entry_at key ys k)

-- the least entry of both, and the rest of each after it
pub record IsLeast {A : Type 0} (key : A → ℕ) (xs ys : List A) (x : A) (others further : List A) : Type 0 where
  pub there : or_else (entry_at key xs (key x)) (entry_at key ys (key x)) ≡ Some x
  pub agree : Agree (entry_at key xs (key x)) (entry_at key ys (key x))
  pub none_first : (k : ℕ) → k < key x → entry_at key xs k ≡ None
  pub none_second : (k : ℕ) → k < key x → entry_at key ys k ≡ None
  pub first_behind : (k : ℕ) → key x < k → entry_at key others k ≡ entry_at key xs k
  pub second_behind : (k : ℕ) → key x < k → entry_at key further k ≡ entry_at key ys k
  pub first_rises : RiseFrom (key x + 1) (map key others)
  pub second_rises : RiseFrom (key x + 1) (map key further)
  pub above : (least : ℕ) → RiseFrom least (map key xs) → RiseFrom least (map key ys) → least ≤ key x
  pub fewer : length others + length further < length xs + length ys

-- the least entry of two lists, or two that differ under the least key, wherever they lie in memory; or nothing is left
abbrev pub SaysLeast : {A : Type 0} → (A → ℕ) → List A → List A → Option (Result (Bor A × Bor (List A) × Bor (List A)) (Bor A × Bor A)) → Type 0
SaysLeast key xs ys None = (xs ≡ []) × (ys ≡ [])
SaysLeast key xs ys (Some (Ok least)) = IsLeast key xs ys least.0.now least.1.now least.2.now
SaysLeast key xs ys (Some (Err both)) = DifferFirst key xs ys both.0.now both.1.now

-- the union of two lists of entries
pub record IsUnited {A : Type 0} (key : A → ℕ) (xs ys merged : List A) : Type 0 where
  pub agree : (k : ℕ) → Agree (entry_at key xs k) (entry_at key ys k)
  pub both : (k : ℕ) → entry_at key merged k ≡ or_else (entry_at key xs k) (entry_at key ys k)
  pub rises : (least : ℕ) → RiseFrom least (map key xs) → RiseFrom least (map key ys) → RiseFrom least (map key merged)
