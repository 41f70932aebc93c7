-- Both roots that a front leads to, case by case.
use Rattle.std.proofs.Common.{◌≡◌, ◌≢◌, ℕ, ◌-◌, ◌<◌, ◌≤◌, List, [], ◌∷◌, ◌++◌, length, reverse, inl, inr, refl, sym, ap, ◌∙◌, arith}
use Rattle.std.proofs.lemmas.List.{reverse-append}
use Rattle.ksi_split.specs.Powers.{split_of}
use Rattle.ksi_consistency.specs.Checked.{roots_from, joined_left, joined_right}
use Rattle.ksi_consistency.proofs.Cases.{lt_cases, eq_cases}

-- the last one comes first
pub last_first : (front inner : List (List ℕ)) (x : List ℕ) → front ≡ inner ++ x ∷ [] → reverse front ≡ x ∷ reverse inner
last_first front inner x is = ap reverse is ∙ reverse-append inner (x ∷ [])

pub empty : {A : Type 0} (xs : List A) → length xs ≡ 0 → xs ≡ []
empty [] e = refl
empty (x ∷ xs) e = absurd (omega (arith, e))

module _ (image : List ℕ → List ℕ) (given : List ℕ) where
  pub roots_none : (m n : ℕ) (front : List (List ℕ)) → length front ≡ 0 → roots_from image given m n (reverse front) ≡ record { old = given; new = given }
  unfolding roots_from
  roots_none m n front none = ap (λ (xs : List (List ℕ)). roots_from image given m n (reverse xs)) (empty front none)

  pub roots_all : (m n : ℕ) (x : List ℕ) (inner : List (List ℕ)) → m ≡ n → roots_from image given m n (x ∷ inner) ≡ record { old = x; new = x }
  unfolding roots_from
  roots_all m n x inner all = elim (eq_cases m n) [ inl same ↦ rw same.0 refl | inr other ↦ absurd (other.1 all) ]

  pub roots_left : (m n k : ℕ) (x : List ℕ) (inner : List (List ℕ)) → m ≢ n → k ≡ split_of n → m ≤ k → roots_from image given m n (x ∷ inner) ≡ joined_right image (roots_from image given m k inner) x
  unfolding roots_from
  roots_left m n k x inner part is most = elim (eq_cases m n) [
    | inl same ↦ absurd (part same.1)
    | inr other ↦ elim (lt_cases (split_of n) m) [ inl right ↦ absurd (omega (arith, right.1, most, is)) | inr left ↦ rw (other.0, left.0, is) refl ]
  ]

  pub roots_right : (m n k : ℕ) (x : List ℕ) (inner : List (List ℕ)) → m ≢ n → k ≡ split_of n → k < m → roots_from image given m n (x ∷ inner) ≡ joined_left image (roots_from image given (m - k) (n - k) inner) x
  unfolding roots_from
  roots_right m n k x inner part is above = elim (eq_cases m n) [
    | inl same ↦ absurd (part same.1)
    | inr other ↦ elim (lt_cases (split_of n) m) [ inl right ↦ rw (other.0, right.0, is) refl | inr left ↦ absurd (omega (arith, left.1, above, is)) ]
  ]

  pub roots_down_right : (m n k first rest : ℕ) (x : List ℕ) (inner : List (List ℕ)) → m ≢ n → k ≡ split_of n → k < m → first ≡ m - k → rest ≡ n - k → roots_from image given m n (x ∷ inner) ≡ joined_left image (roots_from image given first rest inner) x
  roots_down_right m n k first rest x inner part is above few left =
      roots_right m n k x inner part is above
      ∙ ap (λ (y : ℕ). joined_left image (roots_from image given y (n - k) inner) x) (sym few)
      ∙ ap (λ (y : ℕ). joined_left image (roots_from image given first y inner) x) (sym left)

  pub roots_end : (m n : ℕ) → roots_from image given m n [] ≡ record { old = given; new = given }
  unfolding roots_from
  roots_end m n = refl
