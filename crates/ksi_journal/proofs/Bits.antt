-- The bits of voters say who votes.
use Rattle.std.proofs.Common.{◌≡◌, ℕ, zero, suc, ◌+◌, ◌*◌, ◌/◌, ◌%◌, ◌^◌, ◌-◌, ◌<◌, ◌≤◌, Bool, true, false, cond, eqb, List, [], ◌∷◌, ◌++◌, length, refl, sym, ap, subst, ◌∙◌, inl, inr, arith, append-nil}
use Rattle.std.specs.List.{AllByRecursion, filter}
use Rattle.std.specs.Int.{bit_at}
use Rattle.std.proofs.lemmas.Bool.{cases_eq, cond_both}
use Rattle.std.proofs.lemmas.List.Elements.{filter-append}
use Rattle.std.proofs.lemmas.List.Sums.{sum_by_push, sum_by-cons}
use Rattle.std.proofs.lemmas.Nat.Bits.{bit_at-lt, bit_at_above}
use Rattle.std.proofs.lemmas.Nat.{div-mul-add, pow-add, mod-pow-add}
use Rattle.std.proofs.Math.Nat.{pow-le-pow_right, mod-one, mod-eq_of_lt, add-mul-div_left, add-mul-mod_self_left, one-le-pow}
use Rattle.ksi_synod.specs.Voters.{cores_below, is_voter}
use Rattle.ksi_synod.specs.CorePlans.{AreRising, AreVoters}
use Rattle.ksi_journal.specs.Voters.{bits_of, is_bit, cores_in}

-- a core more
pub bits_of-more : (xs : List ℕ) (n : ℕ) → bits_of (xs ++ n ∷ []) ≡ bits_of xs + 2 ^ n
unfolding bits_of
bits_of-more xs n = sum_by_push (λ core. 2 ^ core) xs n

pub filtered : (p : ℕ → Bool) (n : ℕ) → filter p (cores_below (suc n)) ≡ cond (p n) (filter p (cores_below n) ++ n ∷ []) (filter p (cores_below n))
filtered p n = filter-append p (cores_below n) (n ∷ []) ∙ by (p n)
  where
    by : (b : Bool) → filter p (cores_below n) ++ cond b (n ∷ []) [] ≡ cond b (filter p (cores_below n) ++ n ∷ []) (filter p (cores_below n))
    by true = refl
    by false = append-nil (filter p (cores_below n))

-- each is below the next
below_more : (xs : List ℕ) (n m : ℕ) → n ≤ m → AllByRecursion (λ x. x < n) xs → AllByRecursion (λ x. x < m) xs
below_more [] n m le all = tt
below_more (x ∷ xs) n m le all = (omega (arith, all.0, le), below_more xs n m le all.1)

below_with : (xs : List ℕ) (n m : ℕ) → n < m → AllByRecursion (λ x. x < m) xs → AllByRecursion (λ x. x < m) (xs ++ n ∷ [])
below_with [] n m lt all = (lt, tt)
below_with (x ∷ xs) n m lt all = (all.0, below_with xs n m lt all.1)

rising_with : (xs : List ℕ) (n : ℕ) → AreRising xs → AllByRecursion (λ x. x < n) xs → AreRising (xs ++ n ∷ [])
rising_with [] n rising below = (tt, tt)
rising_with (x ∷ xs) n rising below = (above x xs rising.0 below.0, rising_with xs n rising.1 below.1)
  where
    above : (x : ℕ) (xs : List ℕ) → AllByRecursion (λ y. x < y) xs → x < n → AllByRecursion (λ y. x < y) (xs ++ n ∷ [])
    above x [] all lt = (lt, tt)
    above x (y ∷ xs) all lt = (all.0, above x xs all.1 lt)

pub power_next : (n : ℕ) → 2 ^ (n + 1) ≡ 2 ^ n + 2 ^ n
power_next n = (let next : n + 1 ≡ suc n = omega arith in ap (λ m. 2 ^ m) next) ∙ twice n
  where
    twice : (n : ℕ) → 2 ^ suc n ≡ 2 ^ n + 2 ^ n
    twice n = omega arith

-- the bit of one of nine cores
pub power_small : (n : ℕ) → n < 9 → 2 ^ n ≤ 256
power_small n lt = pow-le-pow_right {n = 2} (omega arith) {i = n} {j = 8} (omega arith)

-- a bit above leaves the lower ones
bit_lower : (b core j : ℕ) → bit_at (b + 2 ^ (core + suc j)) core ≡ bit_at b core
bit_lower b core j =
    let whole : 2 ^ (core + suc j) ≡ 2 ^ core * (2 * 2 ^ j) = pow-add 2 core (suc j) ∙ ap (λ m. 2 ^ core * m) (twice j) in
    ap (λ m. (b + m) / 2 ^ core % 2) whole
    ∙ ap (λ m. m % 2) (add-mul-div_left b (2 * 2 ^ j) {y = 2 ^ core} (omega (arith, one-le-pow core 2 (omega arith))))
    ∙ add-mul-mod_self_left (b / 2 ^ core) 2 (2 ^ j)
  where
    twice : (n : ℕ) → 2 ^ suc n ≡ 2 * 2 ^ n
    twice n = omega arith

bit_here : (b n : ℕ) → b < 2 ^ n → bit_at (b + 2 ^ n) n ≡ 1
bit_here b n lt =
    let turned : b + 2 ^ n ≡ 1 * 2 ^ n + b = omega arith in
    ap (λ m. m / 2 ^ n % 2) turned ∙ ap (λ m. m % 2) (div-mul-add 1 (2 ^ n) b lt)

alone : (b : ℕ) → b + 0 ≡ b
alone b = omega arith

bit_top : (b n : ℕ) (flag : Bool) → b < 2 ^ n → is_bit (b + cond flag (2 ^ n) 0) n ≡ flag
bit_top b n true lt = ap (λ m. eqb m 1) (bit_here b n lt)
bit_top b n false lt = ap (λ m. is_bit m n) (alone b) ∙ ap (λ m. eqb m 1) (bit_at_above b n n lt (omega arith))

bit_under : (b n core : ℕ) (flag : Bool) → core < n → is_bit (b + cond flag (2 ^ n) 0) core ≡ is_bit b core
bit_under b n core true lt =
    let split : n ≡ core + suc (n - core - 1) = omega (arith, lt) in
    ap (λ m. is_bit (b + 2 ^ m) core) split ∙ ap (λ m. eqb m 1) (bit_lower b core (n - core - 1))
bit_under b n core false lt = ap (λ m. is_bit m core) (alone b)

module _ (p : ℕ → Bool) where
  pub filter_below : (n : ℕ) → AllByRecursion (λ x. x < n) (filter p (cores_below n))
  filter_below zero = tt
  filter_below (suc n) =
      let before = below_more (filter p (cores_below n)) n (suc n) (omega arith) (filter_below n) in
      subst (AllByRecursion (λ x. x < suc n)) (sym (filtered p n))
      (cond_both (p n) (filter p (cores_below n) ++ n ∷ []) (filter p (cores_below n)) (λ (xs : List ℕ). AllByRecursion (λ x. x < suc n) xs)
      (λ _. below_with (filter p (cores_below n)) n (suc n) (omega arith) before) (λ _. before))

  filter_rising : (n : ℕ) → AreRising (filter p (cores_below n))
  filter_rising zero = tt
  filter_rising (suc n) =
      subst AreRising (sym (filtered p n))
      (cond_both (p n) (filter p (cores_below n) ++ n ∷ []) (filter p (cores_below n)) AreRising
      (λ _. rising_with (filter p (cores_below n)) n (filter_rising n) (filter_below n)) (λ _. filter_rising n))

  -- the cores up to one more, in bits
  bits_next : (n : ℕ) → bits_of (filter p (cores_below (suc n))) ≡ bits_of (filter p (cores_below n)) + cond (p n) (2 ^ n) 0
  bits_next n = ap bits_of (filtered p n) ∙ by (p n)
    where
      by : (b : Bool) → bits_of (cond b (filter p (cores_below n) ++ n ∷ []) (filter p (cores_below n))) ≡ bits_of (filter p (cores_below n)) + cond b (2 ^ n) 0
      by true = bits_of-more (filter p (cores_below n)) n
      by false = omega arith

  pub bits_below : (n : ℕ) → bits_of (filter p (cores_below n)) < 2 ^ n
  unfolding bits_of
  bits_below zero = omega arith
  bits_below (suc n) =
      let before = bits_below n in
      let next = bits_next n in
      cond_both (p n) (2 ^ n) 0 (λ k. bits_of (filter p (cores_below (suc n))) ≡ bits_of (filter p (cores_below n)) + k → bits_of (filter p (cores_below (suc n))) < 2 ^ suc n)
      (λ _ e. omega (arith, before, e)) (λ _ e. omega (arith, before, e)) next

  pub filter_in : (n : ℕ) → p n ≡ true → filter p (cores_below (n + 1)) ≡ filter p (cores_below n) ++ n ∷ []
  filter_in n is = (let next : n + 1 ≡ suc n = omega arith in ap (λ m. filter p (cores_below m)) next) ∙ filtered p n ∙ rw is refl

  pub filter_out : (n : ℕ) → p n ≡ false → filter p (cores_below (n + 1)) ≡ filter p (cores_below n)
  filter_out n is = (let next : n + 1 ≡ suc n = omega arith in ap (λ m. filter p (cores_below m)) next) ∙ filtered p n ∙ rw is refl

  pub bits_in : (n : ℕ) → p n ≡ true → bits_of (filter p (cores_below (n + 1))) ≡ bits_of (filter p (cores_below n)) + 2 ^ n
  bits_in n is = ap bits_of (filter_in n is) ∙ bits_of-more (filter p (cores_below n)) n

  pub bits_out : (n : ℕ) → p n ≡ false → bits_of (filter p (cores_below (n + 1))) ≡ bits_of (filter p (cores_below n))
  bits_out n is = ap bits_of (filter_out n is)

  -- the bit of a core is 1 where it is one of them
  bit_again : (n core : ℕ) → core < n → is_bit (bits_of (filter p (cores_below n))) core ≡ p core
  bit_again zero core lt = absurd (omega arith)
  bit_again (suc n) core lt =
      elim (cases_eq core n) [
        | inl same ↦ ap (is_bit (bits_of (filter p (cores_below (suc n))))) same ∙ ap (λ m. is_bit m n) (bits_next n) ∙ bit_top (bits_of (filter p (cores_below n))) n (p n) (bits_below n) ∙ ap p (sym same)
        | inr other ↦ ap (λ m. is_bit m core) (bits_next n) ∙ bit_under (bits_of (filter p (cores_below n))) n core (p n) (omega (arith, lt, other)) ∙ bit_again n core (omega (arith, lt, other))
      ]

filter_same : (p q : ℕ → Bool) (n : ℕ) → ((core : ℕ) → core < n → p core ≡ q core) → filter p (cores_below n) ≡ filter q (cores_below n)
filter_same p q zero same = refl
filter_same p q (suc n) same =
    filtered p n
    ∙ ap (λ (xs : List ℕ). cond (p n) (xs ++ n ∷ []) xs) (filter_same p q n (λ core lt. same core (omega (arith, lt))))
    ∙ ap (λ flag. cond flag (filter q (cores_below n) ++ n ∷ []) (filter q (cores_below n))) (same n (omega arith))
    ∙ sym (filtered q n)

-- the bits of cores are those of the number, as far as they go
pub bits_again : (bits n : ℕ) → bits_of (filter (is_bit bits) (cores_below n)) ≡ bits % 2 ^ n
unfolding bits_of
bits_again bits zero = sym (mod-one bits)
bits_again bits (suc n) =
    bits_next (is_bit bits) n ∙ ap (λ m. m + cond (is_bit bits n) (2 ^ n) 0) (bits_again bits n) ∙ by (bit_at bits n) (bit_at-lt bits n)
    ∙ (let whole : 1 + n ≡ suc n = omega arith in sym (ap (λ m. bits % 2 ^ m) (sym whole) ∙ mod-pow-add bits 1 n))
  where
    by : (bit : ℕ) → bit < 2 → bits % 2 ^ n + cond (eqb bit 1) (2 ^ n) 0 ≡ bit * 2 ^ n + bits % 2 ^ n
    by zero lt = omega arith
    by (suc zero) lt = omega arith
    by (suc (suc bit)) lt = absurd (omega (arith, lt))

-- the laws of voters
pub record Listed : Type 0 where
  pub listed : (cores : ℕ) (voters : List ℕ) → AreVoters cores voters → filter (is_voter voters) (cores_below cores) ≡ voters

-- who votes is read again from the bits
pub cores_again : Listed → (voters : List ℕ) → AreVoters 9 voters → cores_in (bits_of voters) ≡ voters
unfolding cores_in
cores_again laws voters are =
    let p : ℕ → Bool = is_voter voters in
    let listed = laws.listed 9 voters are in
    ap (λ (xs : List ℕ). filter (is_bit (bits_of xs)) (cores_below 9)) (sym listed)
    ∙ filter_same (is_bit (bits_of (filter (is_voter voters) (cores_below 9)))) (is_voter voters) 9 (bit_again (is_voter voters) 9)
    ∙ listed

bits_some : (xs : List ℕ) → 0 < length xs → 1 ≤ bits_of xs
unfolding bits_of
bits_some [] some = absurd (omega (arith, some))
bits_some (x ∷ xs) some = let first = one-le-pow x 2 (omega arith) in let sum = sum_by-cons (λ core. 2 ^ core) x xs in omega (arith, first, sum)

-- at least one bit is 1, and none but the first nine
pub bits_small : Listed → (voters : List ℕ) → AreVoters 9 voters → (1 ≤ bits_of voters) × (bits_of voters ≤ 511)
bits_small laws voters are =
    let below = bits_below (is_voter voters) 9 in
    let same = ap bits_of (laws.listed 9 voters are) in
    (bits_some voters are.some, omega (arith, below, same))

cores_some : (bits : ℕ) → 1 ≤ bits → bits ≤ 511 → (xs : List ℕ) → bits_of xs ≡ bits % 2 ^ 9 → 0 < length xs
unfolding bits_of
cores_some bits some few [] e = absurd (let small : bits % 512 ≡ bits = mod-eq_of_lt {n = bits} {m = 512} (omega (arith, few)) in omega (arith, e, small, some))
cores_some bits some few (x ∷ xs) e = omega arith

-- the cores that bits name are voters
pub cores_are : (bits : ℕ) → 1 ≤ bits → bits ≤ 511 → AreVoters 9 (cores_in bits)
unfolding cores_in
cores_are bits some few = record {
  some = cores_some bits some few (filter (is_bit bits) (cores_below 9)) (bits_again bits 9);
  rising = filter_rising (is_bit bits) 9;
  there = filter_below (is_bit bits) 9;
}
