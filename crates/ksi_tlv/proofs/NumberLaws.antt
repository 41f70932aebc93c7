-- The value of bytes as a loop comes to it, and numerals.
use Rattle.std.proofs.Common.{◌≡◌, ℕ, zero, suc, ◌+◌, ◌*◌, ◌^◌, ◌<◌, ◌≤◌, List, [], ◌∷◌, length, inl, inr, arith, refl, sym, ap, ◌∙◌, mul_assoc, mul_comm}
use Rattle.std.specs.List.{AllByRecursion}
use Rattle.std.proofs.lemmas.Bool.{cases_lt}
use Rattle.ksi_tlv.specs.Spelling.{AreBytes}
use Rattle.std.proofs.Math.Nat.{pow-le-pow_right, pow-suc, add-mul}
use Rattle.std.proofs.lemmas.Nat.{from_be_bytes-to_be_bytes_8}
use Rattle.std.specs.Int.{w64, to_be_bytes}
use Rattle.ksi_tlv.specs.Numerals.{number_of, without_zeros, numeral}

-- the value of bytes behind those of a value
abbrev pub number_from : ℕ → List ℕ → ℕ
number_from high [] = high
number_from high (b ∷ bytes) = number_from (256 * high + b) bytes

times_256 : (m p : ℕ) → m * (p * 256) ≡ 256 * m * p
times_256 m p = ap (λ (k : ℕ). m * k) (mul_comm p 256) ∙ sym (mul_assoc m 256 p) ∙ ap (λ (k : ℕ). k * p) (mul_comm m 256)

power_on : (m k : ℕ) → m * 256 ^ suc k ≡ 256 * m * 256 ^ k
power_on m k = rw (pow-suc 256 k) (times_256 m (256 ^ k))

from_value : (high : ℕ) (bytes : List ℕ) → number_from high bytes ≡ high * 256 ^ length bytes + number_of bytes
from_value high [] = omega arith
from_value high (b ∷ bytes) =
    let parts : (256 * high + b) * 256 ^ length bytes ≡ 256 * high * 256 ^ length bytes + b * 256 ^ length bytes = add-mul (256 * high) b (256 ^ length bytes) in
    from_value (256 * high + b) bytes ∙ rw (power_on high (length bytes)) (omega (arith, parts))

-- the value is that of the loop
pub from_zero : (bytes : List ℕ) → number_from 0 bytes ≡ number_of bytes
from_zero bytes = from_value 0 bytes ∙ omega arith

-- one byte more, in room for at most 8
pub more_fits : (n i b : ℕ) → n < 256 ^ i → i < 8 → b < 256 → 256 * n + b < 2 ^ 64
more_fits n i b lt small byte =
    let bound : 256 ^ i ≤ 256 ^ 7 = let le : i ≤ 7 = omega arith in pow-le-pow_right {n = 256} (omega arith) le in
    omega (arith, bound)

-- ---- numbers

number_of-without_zeros : (bytes : List ℕ) → number_of (without_zeros bytes) ≡ number_of bytes
number_of-without_zeros [] = refl
number_of-without_zeros (zero ∷ bytes) = number_of-without_zeros bytes ∙ omega arith
number_of-without_zeros (suc b ∷ bytes) = refl

length-without_zeros : (bytes : List ℕ) → length (without_zeros bytes) ≤ length bytes
length-without_zeros [] = omega arith
length-without_zeros (zero ∷ bytes) = omega (arith, length-without_zeros bytes)
length-without_zeros (suc b ∷ bytes) = omega arith

pub length-numeral : (n : ℕ) → length (numeral n) ≤ 8
unfolding numeral
length-numeral n = let eight : length (to_be_bytes w64 n) ≡ 8 = refl in omega (arith, length-without_zeros (to_be_bytes w64 n))

pub number_of-numeral : (n : ℕ) → n < 2 ^ 64 → number_of (numeral n) ≡ n
unfolding numeral
number_of-numeral n lt = number_of-without_zeros (to_be_bytes w64 n) ∙ omega (arith, from_be_bytes-to_be_bytes_8 n lt)

-- ---- the fewest bytes

at_least : (m high : ℕ) (bytes : List ℕ) → m ≤ high → m * 256 ^ length bytes ≤ number_from high bytes
at_least m high [] le = omega arith
at_least m high (b ∷ bytes) le = let more : 256 * m * 256 ^ length bytes ≤ number_from (256 * high + b) bytes = at_least (256 * m) (256 * high + b) bytes (omega arith) in rw (power_on m (length bytes)) more

below : (m high : ℕ) (bytes : List ℕ) → high < m → AllByRecursion (λ b. b < 256) bytes → number_from high bytes < m * 256 ^ length bytes
below m high [] lt fits = omega arith
below m high (b ∷ bytes) lt fits =
    let byte : b < 256 = fits.0 in
    let more : number_from (256 * high + b) bytes < 256 * m * 256 ^ length bytes = below (256 * m) (256 * high + b) bytes (omega arith) fits.1 in rw (power_on m (length bytes)) more

by_recursion : (bytes : List ℕ) → AreBytes bytes → AllByRecursion (λ b. b < 256) bytes
by_recursion [] fits = tt
by_recursion (b ∷ bytes) fits = (fits 0 0 (omega arith), by_recursion bytes (λ k d lt. fits (suc k) d (omega arith)))

-- bytes without a leading zero are the fewest
fewest : (digits bytes : List ℕ) → ((rest : List ℕ) → digits ≡ zero ∷ rest → ⊥) → AreBytes bytes → number_of digits ≡ number_of bytes → length digits ≤ length bytes
fewest [] bytes some fits same = omega arith
fewest (zero ∷ digits) bytes some fits same = absurd (some digits refl)
fewest (suc d ∷ digits) bytes some fits same =
    let low : 1 * 256 ^ length digits ≤ number_from (256 * 0 + suc d) digits = at_least 1 (256 * 0 + suc d) digits (omega arith) in
    let high : number_from 0 bytes < 1 * 256 ^ length bytes = below 1 0 bytes (omega arith) (by_recursion bytes fits) in
    let under : 256 ^ length digits < 256 ^ length bytes = omega (arith, same, from_zero (suc d ∷ digits), from_zero bytes) in
    elim (cases_lt (length digits) (length bytes)) [
      | inl lt ↦ omega arith
      | inr ge ↦ let more : 256 ^ length bytes ≤ 256 ^ length digits = pow-le-pow_right {n = 256} (omega arith) ge in absurd (omega arith)
    ]

without_zeros-leading : (bytes rest : List ℕ) → without_zeros bytes ≡ zero ∷ rest → ⊥
without_zeros-leading [] rest is = absurd cc
without_zeros-leading (zero ∷ bytes) rest is = without_zeros-leading bytes rest is
without_zeros-leading (suc b ∷ bytes) rest is = absurd cc

pub numeral-leading : (n : ℕ) (rest : List ℕ) → numeral n ≡ zero ∷ rest → ⊥
unfolding numeral
numeral-leading n rest is = without_zeros-leading (to_be_bytes w64 n) rest is

pub numeral-fewest : (n : ℕ) (bytes : List ℕ) → n < 2 ^ 64 → AreBytes bytes → number_of bytes ≡ n → length (numeral n) ≤ length bytes
numeral-fewest n bytes lt fits is = fewest (numeral n) bytes (numeral-leading n) fits (number_of-numeral n lt ∙ sym is)
