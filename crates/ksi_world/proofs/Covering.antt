-- The calendar up to a second depends on what is held up to it alone.
use Rattle.std.proofs.Common.{◌≡◌, ℕ, zero, suc, ◌+◌, ◌-◌, ◌<◌, ◌≤◌, List, ◌∷◌, refl, sym, ap, subst, ◌∙◌, arith, inl, inr, is_some, Option, Some, None}
use Rattle.std.specs.Prelude.{IsSome, unwrap_or}
use Rattle.std.proofs.lemmas.Bool.{cases_eq}
use Rattle.ksi_imprint.specs.Imprints.{zero_imprint}
use Rattle.ksi_calendar.specs.Calendar.{Seconds}
use Rattle.ksi_calendar.specs.Covered.{Roots, earlier_of, missing_among, first_missing, roots_among, covered_seconds}

-- all seconds from the start to the last are held
abbrev pub AllHeld : Roots → (start last : ℕ) → Type 0
AllHeld held start last = (t : ℕ) → start ≤ t → t ≤ last → IsSome (held t)

-- what is held from the start to the last second, the other holds too
abbrev pub HeldToo : Roots → Roots → (start last : ℕ) → Type 0
HeldToo held more start last = (t : ℕ) → start ≤ t → t ≤ last → (root : List ℕ) → held t ≡ Some root → more t ≡ Some root

pub value_of : {A : Type 0} (o : Option A) → IsSome o → (x : A) × (o ≡ Some x)
value_of None some = absurd (cc some)
value_of (Some x) some = (x, refl)

none_among : (held : Roots) (n t : ℕ) → missing_among held t n ≡ None → (u : ℕ) → t ≤ u → u < t + n → IsSome (held u)
none_among held zero t none u le lt = absurd (omega (arith, le, lt))
none_among held (suc n) t none u le lt = by (held t) refl none (λ later after. none_among held n (suc t) later u after (omega (arith, lt)))
  where
    by : (o : Option (List ℕ)) → held t ≡ o → earlier_of t o (missing_among held (suc t) n) ≡ None → (missing_among held (suc t) n ≡ None → suc t ≤ u → IsSome (held u)) → IsSome (held u)
    by None is now next = absurd (cc now)
    by (Some root) is later next = elim (cases_eq t u) [
      | inl same ↦ subst (λ u. IsSome (held u)) same (ap (λ (o : Option (List ℕ)). is_some o) is)
      | inr ne ↦ next later (omega (arith, le, ne))
    ]

pub none_missing : (held : Roots) (start last : ℕ) → first_missing held start last ≡ None → AllHeld held start last
unfolding first_missing
none_missing held start last none t from to = none_among held (suc last - start) start none t from (omega (arith, from, to))

module _ (held more : Roots) where
  roots_same : (n s : ℕ) → ((t : ℕ) → s ≤ t → t < s + n → held t ≡ more t) → roots_among held s n ≡ roots_among more s n
  roots_same zero s same = refl
  roots_same (suc n) s same =
      ap (λ o. unwrap_or o zero_imprint ∷ roots_among held (suc s) n) (same s (omega arith) (omega arith))
      ∙ ap (λ roots. unwrap_or (more s) zero_imprint ∷ roots) (roots_same n (suc s) (λ t le lt. same t (omega (arith, le)) (omega (arith, lt))))

  module _ (start last : ℕ) (all : AllHeld held start last) (too : HeldToo held more start last) where
    pub all_too : AllHeld more start last
    all_too t from to = let is = value_of (held t) (all t from to) in ap (λ (o : Option (List ℕ)). is_some o) (too t from to is.0 is.1)

    same_at : (t : ℕ) → start ≤ t → t ≤ last → held t ≡ more t
    same_at t from to = let is = value_of (held t) (all t from to) in is.1 ∙ sym (too t from to is.0 is.1)

    pub seconds_same : covered_seconds held start last ≡ covered_seconds more start last
    unfolding covered_seconds
    seconds_same =
        let starts_at : List (List ℕ) → Seconds = λ roots. record { start = start; roots = roots } in
        ap starts_at (roots_same (suc last - start) start (λ t le lt. same_at t le (omega (arith, le, lt))))
