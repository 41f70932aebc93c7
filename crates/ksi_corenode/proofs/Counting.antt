-- Counting from one number on that something is so of to the next.
use Rattle.std.proofs.Common.{◌≡◌, ◌∙◌, ℕ, zero, suc, ◌+◌, ◌<◌, ◌≤◌, ◌^◌, Bool, true, false, refl, sym, ap, arith, inl, inr, add-zero}
use Rattle.std.specs.Prelude.{if◌then◌else◌, is_some, ◌||◌}
use Rattle.std.proofs.lemmas.Bool.{cond_both, cases_lt}
use Rattle.ksi_corenode.specs.Counted.{count_below}
use Rattle.ksi_corenode.specs.Next.{held_or_sealed}
use Rattle.ksi_corenode.specs.CoreState.{CoreState, state_of, held_by}

module _ (so : ℕ → Bool) where
  pub count_none : count_below so 0 ≡ 0
  unfolding count_below
  count_none = refl

  pub count_next : (n : ℕ) → count_below so (n + 1) ≡ count_below so n + (if so n then 1 else 0)
  unfolding count_below
  count_next n = let is : n + 1 ≡ suc n = omega arith in ap (count_below so) is

  pub count_most : (n : ℕ) → count_below so n ≤ n
  unfolding count_below
  count_most zero = omega arith
  count_most (suc n) = let before : count_below so n ≤ n = count_most n in
      cond_both (so n) 1 0 (λ (m : ℕ). count_below so n + m ≤ suc n) (λ _. omega (arith, before)) (λ _. omega (arith, before))

  -- from here on there is none below
  pub count_same : (from n : ℕ) → from ≤ n → ((t : ℕ) → from ≤ t → t < n → so t ≡ false) → count_below so n ≡ count_below so from
  unfolding count_below
  count_same from zero le none = let is : zero ≡ from = omega arith in ap (count_below so) is
  count_same from (suc n) le none = elim (cases_lt n from) [
    | inl behind ↦ let is : suc n ≡ from = omega arith in ap (count_below so) is
    | inr before ↦
        let here : so n ≡ false = none n before (omega arith) in
        let same : count_below so n ≡ count_below so from = count_same from n before (λ t low high. none t low (omega (arith, high))) in
        ap (λ (b : Bool). count_below so n + (if b then 1 else 0)) here ∙ rw add-zero same
  ]

-- WHAT A CORE SEALED AND HOLDS

neither : (a b : Bool) → (a || b) ≡ false → (a ≡ false) × (b ≡ false)
neither false b is = (refl, is)
neither true b is = absurd (cc is)

module _ (core : CoreState) where
  abbrev pub sealed_there : ℕ → Bool
  sealed_there t = is_some (state_of core t).sealed

  abbrev pub held_there : ℕ → Bool
  held_there t = is_some (held_by core t)

  -- these seconds were counted
  pub record AreCounted (sealed held second : ℕ) : Type 0 where
    pub seals : sealed ≡ count_below sealed_there second
    pub holds : held ≡ count_below held_there second
    pub most : second ≤ 2 ^ 63

  pub none_counted : (second : ℕ) → second ≤ 2 ^ 63 → ((t : ℕ) → 0 ≤ t → t < second → held_or_sealed (state_of core t) ≡ false) → AreCounted 0 0 second
  none_counted second most none = record {
    seals = sym (count_same sealed_there 0 second (omega arith) (λ t low high. (neither (held_there t) (sealed_there t) (none t low high)).1) ∙ count_none sealed_there);
    holds = sym (count_same held_there 0 second (omega arith) (λ t low high. (neither (held_there t) (sealed_there t) (none t low high)).0) ∙ count_none held_there);
    most = most;
  }

  pub one_counted : (sealed held second next : ℕ) → AreCounted sealed held second → second + 1 ≤ next → next ≤ 2 ^ 63 → ((t : ℕ) → second + 1 ≤ t → t < next → held_or_sealed (state_of core t) ≡ false) →
      AreCounted (sealed + (if sealed_there second then 1 else 0)) (held + (if held_there second then 1 else 0)) next
  one_counted sealed held second next are behind most none = record {
    seals = ap (λ (n : ℕ). n + (if sealed_there second then 1 else 0)) are.seals ∙ sym (count_next sealed_there second)
        ∙ sym (count_same sealed_there (second + 1) next behind (λ t low high. (neither (held_there t) (sealed_there t) (none t low high)).1));
    holds = ap (λ (n : ℕ). n + (if held_there second then 1 else 0)) are.holds ∙ sym (count_next held_there second)
        ∙ sym (count_same held_there (second + 1) next behind (λ t low high. (neither (held_there t) (sealed_there t) (none t low high)).0));
    most = most;
  }
