-- Reading a member of a list, and what a write leaves.
use Rattle.std.proofs.Common.{◌≡◌, ◌≢◌, ℕ, zero, suc, ◌<◌, List, [], ◌∷◌, length, get_or, slice_set, refl, sym, ap, arith}
use Rattle.ksi_split.specs.Stored.{read_or}

module _ {X Y : Type 0} (f : X → Y) (none : Y) where
  pub read_is : (xs : List X) (k : ℕ) (x : X) → k < length xs → x ≡ get_or xs k x → read_or f none xs k ≡ f x
  read_is [] k x lt e = absurd (omega arith)
  read_is (y ∷ xs) zero x lt e = ap f (sym e)
  read_is (y ∷ xs) (suc k) x lt e = read_is xs k x (omega arith) e

  pub read_set_same : (xs : List X) (k : ℕ) (x : X) → k < length xs → read_or f none (slice_set xs k x) k ≡ f x
  read_set_same [] k x lt = absurd (omega arith)
  read_set_same (y ∷ xs) zero x lt = refl
  read_set_same (y ∷ xs) (suc k) x lt = read_set_same xs k x (omega arith)

  pub read_set_other : (xs : List X) (k j : ℕ) (x : X) → j ≢ k → read_or f none (slice_set xs k x) j ≡ read_or f none xs j
  read_set_other [] k j x ne = refl
  read_set_other (y ∷ xs) zero zero x ne = absurd (ne refl)
  read_set_other (y ∷ xs) zero (suc j) x ne = refl
  read_set_other (y ∷ xs) (suc k) zero x ne = refl
  read_set_other (y ∷ xs) (suc k) (suc j) x ne = read_set_other xs k j x (λ e. ne (ap suc e))
