-- Tests of numbers and what they mean.
use Rattle.std.proofs.Common.{◌≡◌, ◌≢◌, ℕ, suc, ◌<◌, ◌≤◌, Bool, true, false, ltb, eqb, inl, inr, ◌⊎◌, refl, sym, ap, ◌∙◌, arith}
use Rattle.std.proofs.lemmas.Bool.{ltb-false, ltb-true, eqb-true, eqb-false}

pub lt_cases : (a b : ℕ) → ((ltb a b ≡ true) × (a < b)) ⊎ ((ltb a b ≡ false) × (b ≤ a))
lt_cases a b = of (ltb a b) refl
  where
    of : (t : Bool) → ltb a b ≡ t → ((ltb a b ≡ true) × (a < b)) ⊎ ((ltb a b ≡ false) × (b ≤ a))
    of true e = inl (e, ltb-true _ _ e)
    of false e = inr (e, ltb-false _ _ e)

pub eq_cases : (a b : ℕ) → ((eqb a b ≡ true) × (a ≡ b)) ⊎ ((eqb a b ≡ false) × (a ≢ b))
eq_cases a b = of (eqb a b) refl
  where
    of : (t : Bool) → eqb a b ≡ t → ((eqb a b ≡ true) × (a ≡ b)) ⊎ ((eqb a b ≡ false) × (a ≢ b))
    of true e = inl (e, eqb-true _ _ e)
    of false e = inr (e, eqb-false _ _ e)

pub none_same : (n : ℕ) → eqb 0 (suc n) ≡ false
none_same n = elim (eq_cases 0 (suc n)) [ inl same ↦ absurd (omega (arith, same.1)) | inr other ↦ other.0 ]

pub next_same : (a b : ℕ) → eqb (suc a) (suc b) ≡ eqb a b
next_same a b = elim (eq_cases (suc a) (suc b)) [
  | inl same ↦ elim (eq_cases a b) [ inl t ↦ same.0 ∙ sym t.0 | inr f ↦ absurd (f.1 (omega (arith, same.1))) ]
  | inr other ↦ elim (eq_cases a b) [ inl t ↦ absurd (other.1 (ap suc t.1)) | inr f ↦ other.0 ∙ sym f.0 ]
]
