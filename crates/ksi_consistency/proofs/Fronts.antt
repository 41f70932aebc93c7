-- Fronts, case by case.
use Rattle.std.proofs.Common.{◌≡◌, ℕ, zero, suc, ◌+◌, ◌-◌, ◌<◌, ◌≤◌, List, [], ◌∷◌, ◌++◌, Bool, false, inl, inr, refl, sym, ap, ◌∙◌, arith}
use Rattle.std.specs.Prelude.{if◌then◌else◌}
use Rattle.ksi_split.specs.Powers.{split_of}
use Rattle.ksi_split.specs.Trees.{tree}
use Rattle.ksi_consistency.specs.Front.{front_within, front_of, count_within, count_of}
use Rattle.ksi_consistency.proofs.Cases.{lt_cases, eq_cases, Splits, split_parts}

module _ (splits : Splits) {A : Type 0} (join : A → A → A) (leaf : ℕ → A) where
  -- it does not matter how many leaves there may be
  enough : (f g m lo n : ℕ) (given : Bool) → n ≤ f → n ≤ g → 0 < m → m ≤ n → front_within join leaf f m lo n given ≡ front_within join leaf g m lo n given
  unfolding front_within
  enough zero g m lo n given le le' some most = absurd (omega (arith, le, some, most))
  enough (suc f) zero m lo n given le le' some most = absurd (omega (arith, le', some, most))
  enough (suc f) (suc g) m lo n given le le' some most = elim (eq_cases m n) [
    | inl all ↦ rw all.0 refl
    | inr part ↦ (let h = split_parts splits n (omega (arith, part.1, some, most)) in
        elim (lt_cases (split_of n) m) [
          | inl right ↦ rw (part.0, right.0) (ap (λ (front : List A). front ++ tree join leaf lo (split_of n) ∷ [])
              (enough f g (m - split_of n) (lo + split_of n) (n - split_of n) false (omega (arith, le, h.some)) (omega (arith, le', h.some)) (omega (arith, right.1)) (omega (arith, most))))
          | inr left ↦ rw (part.0, left.0) (ap (λ (front : List A). front ++ tree join leaf (lo + split_of n) (n - split_of n) ∷ [])
              (enough f g m lo (split_of n) given (omega (arith, le, h.below)) (omega (arith, le', h.below)) some left.1))
        ])
  ]

  pub front_all : (m lo n : ℕ) (given : Bool) → 0 < m → m ≡ n → front_of join leaf m lo n given ≡ (if given then [] else tree join leaf lo n ∷ [])
  unfolding front_of front_within
  front_all m lo n given some all = by n refl
    where
      by : (most : ℕ) → most ≡ n → front_within join leaf most m lo n given ≡ (if given then [] else tree join leaf lo n ∷ [])
      by zero e = absurd (omega (arith, e, some, all))
      by (suc most) e = elim (eq_cases m n) [ inl same ↦ rw same.0 refl | inr other ↦ absurd (other.1 all) ]

  pub front_left : (m lo n k : ℕ) (given : Bool) → 0 < m → k ≡ split_of n → m ≤ k → 1 < n → front_of join leaf m lo n given ≡ front_of join leaf m lo k given ++ tree join leaf (lo + k) (n - k) ∷ []
  unfolding front_of front_within
  front_left m lo n k given some is most many = by n refl
    where
      by : (all : ℕ) → all ≡ n → front_within join leaf all m lo n given ≡ front_within join leaf k m lo k given ++ tree join leaf (lo + k) (n - k) ∷ []
      by zero e = absurd (omega (arith, e, many))
      by (suc all) e =
          let h = split_parts splits n many in
          elim (eq_cases m n) [
            | inl same ↦ absurd (omega (arith, same.1, h.below, most, is))
            | inr other ↦ elim (lt_cases (split_of n) m) [
              | inl right ↦ absurd (omega (arith, right.1, most, is))
              | inr left ↦ rw (other.0, left.0, is) (ap (λ (front : List A). front ++ tree join leaf (lo + split_of n) (n - split_of n) ∷ []) (enough all (split_of n) m lo (split_of n) given (omega (arith, e, h.below)) (omega arith) some left.1))
            ]
          ]

  pub front_right : (m lo n k : ℕ) (given : Bool) → k ≡ split_of n → k < m → m < n → front_of join leaf m lo n given ≡ front_of join leaf (m - k) (lo + k) (n - k) false ++ tree join leaf lo k ∷ []
  unfolding front_of front_within
  front_right m lo n k given is above below = by n refl
    where
      by : (all : ℕ) → all ≡ n → front_within join leaf all m lo n given ≡ front_within join leaf (n - k) (m - k) (lo + k) (n - k) false ++ tree join leaf lo k ∷ []
      by zero e = absurd (omega (arith, e, below))
      by (suc all) e =
          let h = split_parts splits n (omega (arith, above, below)) in
          elim (eq_cases m n) [
            | inl same ↦ absurd (omega (arith, same.1, below))
            | inr other ↦ elim (lt_cases (split_of n) m) [
              | inr left ↦ absurd (omega (arith, left.1, above, is))
              | inl right ↦ rw (other.0, right.0, is) (ap (λ (front : List A). front ++ tree join leaf lo (split_of n) ∷ []) (enough all (n - split_of n) (m - split_of n) (lo + split_of n) (n - split_of n) false (omega (arith, e, h.some)) (omega arith) (omega (arith, right.1)) (omega (arith, below))))
            ]
          ]

  -- the same at other spellings of the numbers
  pub front_down_left : (m lo n k from rest : ℕ) (given : Bool) → 0 < m → k ≡ split_of n → m ≤ k → 1 < n → from ≡ lo + k → rest ≡ n - k → front_of join leaf m lo n given ≡ front_of join leaf m lo k given ++ tree join leaf from rest ∷ []
  front_down_left m lo n k from rest given some is most many at left =
      front_left m lo n k given some is most many ∙ ap (λ (x : ℕ). front_of join leaf m lo k given ++ tree join leaf x (n - k) ∷ []) (sym at) ∙ ap (λ (x : ℕ). front_of join leaf m lo k given ++ tree join leaf from x ∷ []) (sym left)

  pub front_down_right : (m lo n k first from rest : ℕ) (given : Bool) → k ≡ split_of n → k < m → m < n → first ≡ m - k → from ≡ lo + k → rest ≡ n - k → front_of join leaf m lo n given ≡ front_of join leaf first from rest false ++ tree join leaf lo k ∷ []
  front_down_right m lo n k first from rest given is above below few at left =
      front_right m lo n k given is above below
      ∙ ap (λ (x : ℕ). front_of join leaf x (lo + k) (n - k) false ++ tree join leaf lo k ∷ []) (sym few)
      ∙ ap (λ (x : ℕ). front_of join leaf first x (n - k) false ++ tree join leaf lo k ∷ []) (sym at)
      ∙ ap (λ (x : ℕ). front_of join leaf first from x false ++ tree join leaf lo k ∷ []) (sym left)

module _ (splits : Splits) where
  count_enough : (f g m n : ℕ) (given : Bool) → n ≤ f → n ≤ g → 0 < m → m ≤ n → count_within f m n given ≡ count_within g m n given
  unfolding count_within
  count_enough zero g m n given le le' some most = absurd (omega (arith, le, some, most))
  count_enough (suc f) zero m n given le le' some most = absurd (omega (arith, le', some, most))
  count_enough (suc f) (suc g) m n given le le' some most = elim (eq_cases m n) [
    | inl all ↦ rw all.0 refl
    | inr part ↦ (let h = split_parts splits n (omega (arith, part.1, some, most)) in
        elim (lt_cases (split_of n) m) [
          | inl right ↦ rw (part.0, right.0) (ap (λ (count : ℕ). count + 1)
              (count_enough f g (m - split_of n) (n - split_of n) false (omega (arith, le, h.some)) (omega (arith, le', h.some)) (omega (arith, right.1)) (omega (arith, most))))
          | inr left ↦ rw (part.0, left.0) (ap (λ (count : ℕ). count + 1)
              (count_enough f g m (split_of n) given (omega (arith, le, h.below)) (omega (arith, le', h.below)) some left.1))
        ])
  ]

  pub count_all : (m n : ℕ) (given : Bool) → 0 < m → m ≡ n → count_of m n given ≡ (if given then 0 else 1)
  unfolding count_of count_within
  count_all m n given some all = by n refl
    where
      by : (most : ℕ) → most ≡ n → count_within most m n given ≡ (if given then 0 else 1)
      by zero e = absurd (omega (arith, e, some, all))
      by (suc most) e = elim (eq_cases m n) [ inl same ↦ rw same.0 refl | inr other ↦ absurd (other.1 all) ]

  pub count_left : (m n k : ℕ) (given : Bool) → 0 < m → k ≡ split_of n → m ≤ k → 1 < n → count_of m n given ≡ count_of m k given + 1
  unfolding count_of count_within
  count_left m n k given some is most many = by n refl
    where
      by : (all : ℕ) → all ≡ n → count_within all m n given ≡ count_within k m k given + 1
      by zero e = absurd (omega (arith, e, many))
      by (suc all) e =
          let h = split_parts splits n many in
          elim (eq_cases m n) [
            | inl same ↦ absurd (omega (arith, same.1, h.below, most, is))
            | inr other ↦ elim (lt_cases (split_of n) m) [
              | inl right ↦ absurd (omega (arith, right.1, most, is))
              | inr left ↦ rw (other.0, left.0, is) (ap (λ (count : ℕ). count + 1) (count_enough all (split_of n) m (split_of n) given (omega (arith, e, h.below)) (omega arith) some left.1))
            ]
          ]

  pub count_right : (m n k : ℕ) (given : Bool) → k ≡ split_of n → k < m → m < n → count_of m n given ≡ count_of (m - k) (n - k) false + 1
  unfolding count_of count_within
  count_right m n k given is above below = by n refl
    where
      by : (all : ℕ) → all ≡ n → count_within all m n given ≡ count_within (n - k) (m - k) (n - k) false + 1
      by zero e = absurd (omega (arith, e, below))
      by (suc all) e =
          let h = split_parts splits n (omega (arith, above, below)) in
          elim (eq_cases m n) [
            | inl same ↦ absurd (omega (arith, same.1, below))
            | inr other ↦ elim (lt_cases (split_of n) m) [
              | inr left ↦ absurd (omega (arith, left.1, above, is))
              | inl right ↦ rw (other.0, right.0, is) (ap (λ (count : ℕ). count + 1) (count_enough all (n - split_of n) (m - split_of n) (n - split_of n) false (omega (arith, e, h.some)) (omega arith) (omega (arith, right.1)) (omega (arith, below))))
            ]
          ]

  pub count_down_right : (m n k first rest : ℕ) (given : Bool) → k ≡ split_of n → k < m → m < n → first ≡ m - k → rest ≡ n - k → count_of m n given ≡ count_of first rest false + 1
  count_down_right m n k first rest given is above below few left =
      count_right m n k given is above below
      ∙ ap (λ (x : ℕ). count_of x (n - k) false + 1) (sym few)
      ∙ ap (λ (x : ℕ). count_of first x false + 1) (sym left)
