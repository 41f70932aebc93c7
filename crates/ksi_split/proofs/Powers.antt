-- Powers of two, and where a number is split.
use Rattle.std.proofs.Common.{◌≡◌, ℕ, zero, suc, ◌+◌, ◌*◌, ◌/◌, ◌%◌, ◌^◌, ◌<◌, ◌≤◌, Bool, true, false, ltb, eqb, ◌≢◌, refl, sym, ap, subst, ◌∙◌, arith, inl, inr, ◌⊎◌, add-one}
use Rattle.std.proofs.lemmas.Bool.{ltb-false, ltb-true, eqb-true, eqb-false}
use Rattle.std.proofs.lemmas.Nat.{mul-le, shr-shr}
use Rattle.std.proofs.Math.Nat.{pow-suc, pow-le-pow_right}
use Rattle.ksi_split.specs.Powers.{split_within, split_of, high_bit_of, IsSplit, IsHighBit}
use Rattle.ksi_split.specs.Upward.{halves}

-- a test and its meaning
pub lt_cases : (a b : ℕ) → ((ltb a b ≡ true) × (a < b)) ⊎ ((ltb a b ≡ false) × (b ≤ a))
lt_cases a b = of (ltb a b) refl
  where
    of : (t : Bool) → ltb a b ≡ t → ((ltb a b ≡ true) × (a < b)) ⊎ ((ltb a b ≡ false) × (b ≤ a))
    of true e = inl (e, ltb-true _ _ e)
    of false e = inr (e, ltb-false _ _ e)

pub le_cases : (a b : ℕ) → (a ≤ b) ⊎ (b < a)
le_cases a b = elim (lt_cases b a) [ inl t ↦ inr t.1 | inr f ↦ inl f.1 ]

pub eq_cases : (a b : ℕ) → ((eqb a b ≡ true) × (a ≡ b)) ⊎ ((eqb a b ≡ false) × (a ≢ b))
eq_cases a b = of (eqb a b) refl
  where
    of : (t : Bool) → eqb a b ≡ t → ((eqb a b ≡ true) × (a ≡ b)) ⊎ ((eqb a b ≡ false) × (a ≢ b))
    of true e = inl (e, eqb-true _ _ e)
    of false e = inr (e, eqb-false _ _ e)

pub below_power : (n : ℕ) → n < 2 ^ n
below_power zero = omega arith
below_power (suc n) = rw (pow-suc 2 n) (omega (arith, below_power n))

pub doubled : (k : ℕ) → 2 ^ suc k ≡ 2 * 2 ^ k
doubled k = omega (arith, pow-suc 2 k)

-- the greater power has the greater exponent
pub exponents : (i j : ℕ) → 2 ^ i < 2 ^ suc j → i ≤ j
exponents i j h = elim (le_cases i j) [ inl le ↦ le | inr lt ↦ let big : 2 ^ suc j ≤ 2 ^ i = (let s : suc j ≤ i = omega arith in pow-le-pow_right {n = 2} (omega arith) s) in absurd (omega arith) ]

-- the exponent where n is split, among those below m
split_at_level : (m k n : ℕ) → k < m → 2 ^ k < n → n ≤ 2 ^ suc k → split_within m n ≡ 2 ^ k
unfolding split_within
split_at_level zero k n lt low high = absurd (omega arith)
split_at_level (suc m) k n lt low high =
    elim (lt_cases (2 ^ m) n) [
      | inl t ↦ let le : m ≤ k = exponents m k (omega arith) in let e : m ≡ k = omega arith in rw t.0 (ap (λ (i : ℕ). 2 ^ i) e)
      | inr f ↦ rw f.0 (split_at_level m k n (elim (le_cases m k) [ inl le ↦ (let up : 2 ^ m ≤ 2 ^ k = pow-le-pow_right {n = 2} (omega arith) le in absurd (omega arith)) | inr lt ↦ lt ]) low high)
    ]

pub split_at : (k n : ℕ) → 2 ^ k < n → n ≤ 2 ^ suc k → split_of n ≡ 2 ^ k
unfolding split_of
split_at k n low high = split_at_level n k n (omega (arith, below_power k)) low high

pub high_bit_at : (k n : ℕ) → 2 ^ k ≤ n → n < 2 * 2 ^ k → high_bit_of n ≡ 2 ^ k
high_bit_at k n low high = split_at k (n + 1) (omega arith) (omega (arith, doubled k))

-- some power splits n
pub split_exponent : (m n : ℕ) → 1 < n → n ≤ 2 ^ m → (k : ℕ) × (2 ^ k < n) × (n ≤ 2 ^ suc k)
split_exponent zero n some high = absurd (omega arith)
split_exponent (suc m) n some high = elim (lt_cases (2 ^ m) n) [ inl t ↦ (m, t.1, high) | inr f ↦ split_exponent m n some f.1 ]

pub split_is : (n : ℕ) → 1 < n → IsSplit n (split_of n)
split_is n some =
    let p = split_exponent n n some (omega (arith, below_power n)) in
    let e = split_at p.0 n p.1 p.2 in
    record { power = (p.0, e); below = rw e p.1; greatest = rw e (omega (arith, doubled p.0, p.2)) }

pub split_some : (n k : ℕ) → IsSplit n k → 1 < n
split_some n k h = omega (arith, h.below, h.power.1, below_power h.power.0)

-- nothing else splits n
pub split_only : (n k : ℕ) → IsSplit n k → k ≡ split_of n
split_only n k h =
    let j = h.power.0 in
    let is : k ≡ 2 ^ j = h.power.1 in
    is ∙ sym (split_at j n (omega (arith, h.below)) (omega (arith, doubled j, h.greatest)))

pub high_bit_is : (n : ℕ) → 0 < n → IsHighBit n (high_bit_of n)
high_bit_is n some =
    let s = split_is (n + 1) (omega arith) in
    record { power = s.power; most = omega (arith, s.below); greatest = omega (arith, s.greatest) }

pub high_bit_only : (n k : ℕ) → IsHighBit n k → k ≡ high_bit_of n
high_bit_only n k h = split_only (n + 1) k (record { power = h.power; below = omega (arith, h.most); greatest = omega (arith, h.greatest) })

-- ---- halves

half_low : (h p n : ℕ) → h * p ≤ n → h / 2 * (2 * p) ≤ n
half_low h p n le = let m : h / 2 * 2 * p ≤ h * p = (let two : h / 2 * 2 ≤ h = omega arith in let same : p ≤ p = omega arith in mul-le (h / 2 * 2) p h p two same) in omega arith

half_high : (h p n : ℕ) → n < (h + 1) * p → n < (h / 2 + 1) * (2 * p)
half_high h p n lt = let m : (h + 1) * p ≤ (h / 2 * 2 + 2) * p = (let two : h + 1 ≤ h / 2 * 2 + 2 = omega arith in let same : p ≤ p = omega arith in mul-le (h + 1) p (h / 2 * 2 + 2) p two same) in omega arith

-- where n lies among the multiples of 2 ^ k
pub halves_below : (k n : ℕ) → halves k n * 2 ^ k ≤ n
halves_below zero n = omega arith
halves_below (suc k) n = rw (doubled k) (half_low (halves k n) (2 ^ k) n (halves_below k n))

pub halves_above : (k n : ℕ) → n < (halves k n + 1) * 2 ^ k
halves_above zero n = omega arith
halves_above (suc k) n = rw (doubled k) (half_high (halves k n) (2 ^ k) n (halves_above k n))

pub halves_rise : (k m n : ℕ) → m ≤ n → halves k m ≤ halves k n
halves_rise zero m n le = le
halves_rise (suc k) m n le = omega (arith, halves_rise k m n le)

-- equal halves stay equal
pub halves_from : (level m n : ℕ) → halves level m ≡ halves level n → (k : ℕ) → level ≤ k → halves k m ≡ halves k n
halves_from level m n same zero le = let none : level ≡ 0 = omega arith in subst (λ (i : ℕ). halves i m ≡ halves i n) none same
halves_from level m n same (suc k) le = elim (le_cases level k) [
  | inl below ↦ ap (λ (i : ℕ). i / 2) (halves_from level m n same k below)
  | inr above ↦ let here : level ≡ suc k = omega arith in subst (λ (i : ℕ). halves i m ≡ halves i n) here same
]

-- one number more, and at most one part more
pub halves_next : (k n : ℕ) → halves k (n + 1) ≤ halves k n + 1
halves_next zero n = omega arith
halves_next (suc k) n = let below = halves_next k n in omega arith

-- the multiples of p that a number lies between, told by one multiple
pub below_multiple : (a b p n : ℕ) → a * p ≤ n → n < b * p → a < b
below_multiple a b p n low high = elim (le_cases b a) [ inl le ↦ (let m : b * p ≤ a * p = (let same : p ≤ p = omega arith in mul-le b p a p le same) in absurd (omega arith)) | inr lt ↦ lt ]

pub halves_none : (k n : ℕ) → n < 2 ^ k → halves k n ≡ 0
halves_none k n small = let lt : halves k n < 1 = below_multiple (halves k n) 1 (2 ^ k) n (halves_below k n) (omega arith) in omega arith

-- a number below 2 ^ m has fewer than m levels
pub levels_below : (k m n : ℕ) → n < 2 ^ m → 0 < halves k n → k < m
levels_below k m n small some =
    elim (le_cases m k) [
      | inl le ↦ (let up : 2 ^ m ≤ 2 ^ k = pow-le-pow_right {n = 2} (omega arith) le in
          let one : 1 * 2 ^ k ≤ halves k n * 2 ^ k = (let same : 2 ^ k ≤ 2 ^ k = omega arith in mul-le 1 (2 ^ k) (halves k n) (2 ^ k) some same) in
          absurd (omega (arith, halves_below k n)))
      | inr lt ↦ lt
    ]

-- n halved k times is the quotient by 2 ^ k
pub halves_quotient : (k n : ℕ) → halves k n ≡ n / 2 ^ k
halves_quotient zero n = omega arith
halves_quotient (suc k) n = ap (λ (i : ℕ). i / 2) (halves_quotient k n) ∙ shr-shr n k 1 ∙ ap (λ (i : ℕ). n / 2 ^ i) (add-one k)

-- what is below the last part is below it one level down
pub halved_below : (last k i : ℕ) → i / 2 < halves (k + 1) last → i < halves k last
halved_below last k i lt = let e : halves (k + 1) last ≡ halves k last / 2 = ap (λ (j : ℕ). halves j last) (add-one k) in omega arith

-- where two parts meet at the next level, they are a pair
pub last_pair : (last k i : ℕ) → i < halves k last → i / 2 ≡ halves (k + 1) last → (i % 2 ≡ 0) × (i + 1 ≡ halves k last)
last_pair last k i lt meet = let e : halves (k + 1) last ≡ halves k last / 2 = ap (λ (j : ℕ). halves j last) (add-one k) in (omega arith, omega arith)

pub exponent_below : (i k : ℕ) → 2 ^ i < 2 ^ k → i < k
exponent_below i k lt = elim (le_cases k i) [ inl le ↦ (let up : 2 ^ k ≤ 2 ^ i = pow-le-pow_right {n = 2} (omega arith) le in absurd (omega arith)) | inr above ↦ above ]
