-- The first of a list of cores is the lowest of the world.
use Rattle.std.proofs.Common.{◌≡◌, ℕ, zero, suc, ◌+◌, ◌<◌, ◌≤◌, List, [], ◌∷◌, length, refl, sym, ap, ◌∙◌, arith, inl, inr, Option, Some, None}
use Rattle.std.specs.Prelude.{slice_get}
use Rattle.std.proofs.lemmas.Bool.{cases_eq}
use Rattle.ksi_world.specs.Records.{or_else, lowest}
use Rattle.ksi_world.specs.Keeping.{first_of}

pub first_lowest : {A B : Type 0} (f : A → Option B) (g : ℕ → Option B) (xs : List A) (from : ℕ) →
    ((i j : ℕ) (x : A) → i ≡ from + j → slice_get xs j ≡ Some x → f x ≡ g i) → first_of f xs ≡ lowest g from (length xs)
first_lowest f g [] from each = refl
first_lowest f g (x ∷ xs) from each =
    ap (λ o. or_else o (first_of f xs)) (each from 0 x (omega arith) refl)
    ∙ ap (λ o. or_else (g from) o) (first_lowest f g xs (suc from) (λ i j y is at. each i (suc j) y (omega (arith, is)) at))

-- where none has something, nothing is found
pub first_none : {A B : Type 0} (f : A → Option B) (xs : List A) → ((j : ℕ) (x : A) → slice_get xs j ≡ Some x → f x ≡ None) → first_of f xs ≡ None
first_none f [] each = refl
first_none f (x ∷ xs) each = ap (λ o. or_else o (first_of f xs)) (each 0 x refl) ∙ first_none f xs (λ j y at. each (suc j) y at)

module _ {B : Type 0} (g : ℕ → Option B) where
  abbrev Finds : (from n : ℕ) → B → Type 0
  Finds from n x = (i : ℕ) × (from ≤ i) × (i < from + n) × (g i ≡ Some x)

  -- what is found is one's
  pub lowest_some : (from n : ℕ) (x : B) → lowest g from n ≡ Some x → (i : ℕ) × (from ≤ i) × (i < from + n) × (g i ≡ Some x)
  lowest_some from zero x is = absurd (cc is)
  lowest_some from (suc n) x is = by (g from) refl (lowest_some (suc from) n x) is
    where
      by : (o : Option B) → g from ≡ o → (lowest g (suc from) n ≡ Some x → Finds (suc from) n x) → or_else o (lowest g (suc from) n) ≡ Some x → Finds from (suc n) x
      by None none later found = let r = later found in (r.0, omega (arith, r.1), omega (arith, r.2), r.3)
      by (Some y) some later found = (from, omega arith, omega arith, some ∙ found)

  -- where one has something, something is found
  pub lowest_there : (from n i : ℕ) (x : B) → from ≤ i → i < from + n → g i ≡ Some x → (y : B) × (lowest g from n ≡ Some y)
  lowest_there from zero i x le lt is = absurd (omega (arith, le, lt))
  lowest_there from (suc n) i x le lt is = by (g from) refl (λ after. lowest_there (suc from) n i x after (omega (arith, lt)) is)
    where
      by : (o : Option B) → g from ≡ o → (suc from ≤ i → (y : B) × (lowest g (suc from) n ≡ Some y)) → (y : B) × (or_else o (lowest g (suc from) n) ≡ Some y)
      by (Some y) some later = (y, refl)
      by None none later = elim (cases_eq from i) [
        | inl same ↦ absurd (cc (sym none ∙ ap g same ∙ is))
        | inr ne ↦ later (omega (arith, le, ne))
      ]
