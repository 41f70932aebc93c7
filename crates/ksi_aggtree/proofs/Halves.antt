-- Both parts of at most 2 ^ height leaves have at most half as many.
use Rattle.std.proofs.Common.{◌≡◌, ℕ, zero, suc, ◌-◌, ◌^◌, ◌<◌, ◌≤◌, ◌⊎◌, inl, inr, arith}
use Rattle.std.specs.Int.{IsPowerOfTwo}
use Rattle.std.proofs.Math.Nat.{pow-le-pow_right}
use Rattle.ksi_split.specs.Powers.{IsSplit}

below : (k height : ℕ) → 2 ^ k < 2 ^ height → k < height
below k height lt = elim (le_or k height) [
  | inl more ↦ (let le : 2 ^ height ≤ 2 ^ k = pow-le-pow_right {n = 2} (omega arith) more in omega arith)
  | inr less ↦ less
]
  where
    le_or : (k height : ℕ) → (height ≤ k) ⊎ (k < height)
    le_or k zero = inl (omega arith)
    le_or zero (suc height) = inr (omega arith)
    le_or (suc k) (suc height) = elim (le_or k height) [
      | inl a ↦ inl (omega (arith, a))
      | inr b ↦ inr (omega (arith, b))
    ]

pub height_left : (half count height : ℕ) → IsPowerOfTwo half → half < count → count ≤ 2 ^ height → 0 < height
height_left half count height power lt le =
    let is : half ≡ 2 ^ power.0 = power.1 in
    let more = below power.0 height (omega arith) in omega (arith, more)

pub left_half : (half count height : ℕ) → IsPowerOfTwo half → half < count → count ≤ 2 ^ height → half ≤ 2 ^ (height - 1)
left_half half count height power lt le =
    let is : half ≡ 2 ^ power.0 = power.1 in
    let more = below power.0 height (omega arith) in
    let some : power.0 ≤ height - 1 = omega (arith, more) in
    let le : 2 ^ power.0 ≤ 2 ^ (height - 1) = pow-le-pow_right {n = 2} (omega arith) some in
    omega arith

-- what is split is above one
pub above_one : (n k : ℕ) → IsSplit n k → 1 < n
above_one n k split =
    let is : k ≡ 2 ^ split.power.0 = split.power.1 in
    let least : 0 ≤ split.power.0 = omega arith in
    let some : 2 ^ 0 ≤ 2 ^ split.power.0 = pow-le-pow_right {n = 2} (omega arith) least in
    let below = split.below in
    omega arith
