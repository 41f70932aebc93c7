-- Tests of numbers and what they mean, and where a number is split.
use Rattle.std.proofs.Common.{◌≡◌, ◌≢◌, ℕ, suc, ◌*◌, ◌^◌, ◌<◌, ◌≤◌, ◌↔◌, Bool, true, false, ltb, eqb, inl, inr, ◌⊎◌, refl, arith}
use Rattle.std.proofs.lemmas.Bool.{ltb-false, ltb-true, eqb-true, eqb-false}
use Rattle.std.specs.Int.{IsPowerOfTwo}
use Rattle.std.proofs.Math.Nat.{pow-le-pow_right}
use Rattle.std.proofs.Math.Pow.{pow_pos}
use Rattle.ksi_split.specs.Powers.{IsSplit, split_of}

pub lt_cases : (a b : ℕ) → ((ltb a b ≡ true) × (a < b)) ⊎ ((ltb a b ≡ false) × (b ≤ a))
lt_cases a b = of (ltb a b) refl
  where
    of : (t : Bool) → ltb a b ≡ t → ((ltb a b ≡ true) × (a < b)) ⊎ ((ltb a b ≡ false) × (b ≤ a))
    of true e = inl (e, ltb-true _ _ e)
    of false e = inr (e, ltb-false _ _ e)

pub eq_cases : (a b : ℕ) → ((eqb a b ≡ true) × (a ≡ b)) ⊎ ((eqb a b ≡ false) × (a ≢ b))
eq_cases a b = of (eqb a b) refl
  where
    of : (t : Bool) → eqb a b ≡ t → ((eqb a b ≡ true) × (a ≡ b)) ⊎ ((eqb a b ≡ false) × (a ≢ b))
    of true e = inl (e, eqb-true _ _ e)
    of false e = inr (e, eqb-false _ _ e)

-- where each number is split
abbrev pub Splits : Type 0
Splits = (n k : ℕ) → 1 < n → IsSplit n k ↔ (k ≡ split_of n)

-- both parts of a split have leaves
pub record HasParts (n k : ℕ) : Type 0 where
  pub some : 0 < k
  pub below : k < n
  pub greatest : n ≤ 2 * k

pub parts_of : (n k : ℕ) → IsSplit n k → HasParts n k
parts_of n k h =
    let e = h.power.1 in
    let p : 0 < 2 ^ h.power.0 = pow_pos h.power.0 in
    record { some = omega (arith, e, p); below = h.below; greatest = h.greatest }

pub split_parts : Splits → (n : ℕ) → 1 < n → HasParts n (split_of n)
split_parts splits n some = parts_of n (split_of n) ((splits n (split_of n) some).1 refl)

-- the greater power has the greater exponent
exponents : (i j : ℕ) → 2 ^ i < 2 ^ suc j → i ≤ j
exponents i j h = elim (lt_cases j i) [
  | inr le ↦ le.1
  | inl lt ↦ absurd (let big : 2 ^ suc j ≤ 2 ^ i = (let s : suc j ≤ i = omega (arith, lt.1) in pow-le-pow_right {n = 2} (omega arith) s) in omega (arith, big, h))
]

-- a power of two that is below the next one is at most this one
pub power_below : (k j : ℕ) → IsPowerOfTwo k → k < 2 ^ suc j → k ≤ 2 ^ j
power_below k j (i, is) below =
    let le : 2 ^ i ≤ 2 ^ j = pow-le-pow_right {n = 2} (omega arith) (exponents i j (omega (arith, is, below))) in
    omega (arith, is, le)
