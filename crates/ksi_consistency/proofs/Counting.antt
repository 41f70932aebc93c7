-- A front has at most 64 imprints, so 65 of a longer list are enough to refuse it.
use Rattle.std.proofs.Common.{◌≡◌, ℕ, zero, suc, ◌+◌, ◌-◌, ◌^◌, ◌<◌, ◌≤◌, Bool, true, false, List, length, take, if◌then◌else◌, inl, inr, refl, sym, subst, arith, Ok}
use Rattle.std.proofs.lemmas.List.{take_all, length-take}
use Rattle.ksi_split.specs.Powers.{split_of}
use Rattle.ksi_consistency.specs.Front.{count_within, count_of, front_count}
use Rattle.ksi_consistency.specs.Checked.{front_checked}
use Rattle.ksi_consistency.proofs.Cases.{lt_cases, eq_cases, Splits, split_parts, power_below}
use Rattle.ksi_consistency.proofs.Accepting.{is_accepted}

one_or_none : (given : Bool) (e : ℕ) → (if given then 0 else 1) ≤ e + 1
one_or_none true e = omega arith
one_or_none false e = omega arith

module _ (splits : Splits) where
  few_within : (most m n e : ℕ) (given : Bool) → 0 < m → m ≤ n → n ≤ 2 ^ e → count_within most m n given ≤ e + 1
  unfolding count_within
  few_within zero m n e given some within fits = omega arith
  few_within (suc most) m n zero given some within fits = elim (eq_cases m n) [
    | inl same ↦ rw same.0 (one_or_none given zero)
    | inr other ↦ absurd (other.1 (omega (arith, some, within, fits)))
  ]
  few_within (suc most) m n (suc j) given some within fits = elim (eq_cases m n) [
    | inl same ↦ rw same.0 (one_or_none given (suc j))
    | inr other ↦ (let many : 1 < n = omega (arith, some, within, other.1) in
        let h = split_parts splits n many in
        let half = power_below (split_of n) j ((splits n (split_of n) many).1 refl).power (omega (arith, h.below, fits)) in
        elim (lt_cases (split_of n) m) [
          | inl right ↦ rw (other.0, right.0) (let on = few_within most (m - split_of n) (n - split_of n) j false (omega (arith, right.1)) (omega (arith, within)) (omega (arith, h.greatest, half)) in omega (arith, on))
          | inr left ↦ rw (other.0, left.0) (let on = few_within most m (split_of n) j given some left.1 half in omega (arith, on))
        ])
  ]

  pub few_count : (p1 p2 : ℕ) → p1 ≤ p2 → p2 < 2 ^ 63 → front_count p1 p2 ≤ 64
  unfolding count_of
  few_count p1 p2 within early = few_within (p2 + 1) (p1 + 1) (p2 + 1) 63 true (omega arith) (omega (arith, within)) (omega (arith, early))

-- a list that is cut at 65 has at most 64 members exactly where it had them
cut_is : (list : List (List ℕ)) → length (take 65 list) ≤ 64 → take 65 list ≡ list
cut_is list few = take_all 65 list (omega (arith, few, length-take 65 list))

pub few_accepted : (image : List ℕ → List ℕ) (p1 p2 : ℕ) (old new : List ℕ) (list : List (List ℕ)) → front_count p1 p2 ≤ 64
    → front_checked image p1 p2 old new (take 65 list) ≡ Ok tt → front_checked image p1 p2 old new list ≡ Ok tt
few_accepted image p1 p2 old new list few ok =
    let count = (is_accepted image p1 p2 old new (take 65 list) ok).count in
    subst (λ (front : List (List ℕ)). front_checked image p1 p2 old new front ≡ Ok tt) (cut_is list (omega (arith, count, few))) ok

pub all_accepted : (image : List ℕ → List ℕ) (p1 p2 : ℕ) (old new : List ℕ) (list : List (List ℕ)) → front_count p1 p2 ≤ 64
    → front_checked image p1 p2 old new list ≡ Ok tt → front_checked image p1 p2 old new (take 65 list) ≡ Ok tt
all_accepted image p1 p2 old new list few ok =
    let count = (is_accepted image p1 p2 old new list ok).count in
    subst (λ (front : List (List ℕ)). front_checked image p1 p2 old new front ≡ Ok tt) (sym (take_all 65 list (omega (arith, count, few)))) ok
