-- The first second that has no root, in words.
use Rattle.std.proofs.Common.{◌≡◌, ℕ, zero, suc, ◌+◌, ◌-◌, ◌<◌, ◌≤◌, ◌↔◌, List, Option, Some, None, refl, sym, ap, subst, arith, inl, inr}
use Rattle.std.specs.Prelude.{is_some, IsSome}
use Rattle.std.proofs.Math.Nat.{eq-or-lt_of_le}
use Rattle.ksi_calendar.specs.Covered.{Roots, earlier_of, missing_among, first_missing, IsFirstMissing}

-- the first of n seconds from t on
record IsFirst (roots : Roots) (t n s : ℕ) : Type 0 where
  from : t ≤ s
  to : s < t + n
  missing : roots s ≡ None
  before : (u : ℕ) → t ≤ u → u < s → IsSome (roots u)

-- a second is this one or a later one
split_at : (roots : Roots) (t u : ℕ) → t ≤ u → IsSome (roots t) → (suc t ≤ u → IsSome (roots u)) → IsSome (roots u)
split_at roots t u from here later = elim (eq-or-lt_of_le from) [
  | inl same ↦ subst (λ (u : ℕ). IsSome (roots u)) same here
  | inr after ↦ later (omega (arith, after))
]

among_first : (roots : Roots) (n t s : ℕ) → missing_among roots t n ≡ Some s → IsFirst roots t n s
among_first roots zero t s is = absurd (cc is)
among_first roots (suc n) t s is = by (among_first roots n (suc t) s) (roots t) refl is
  where
    by : (missing_among roots (suc t) n ≡ Some s → IsFirst roots (suc t) n s) → (o : Option (List ℕ)) → roots t ≡ o → earlier_of t o (missing_among roots (suc t) n) ≡ Some s → IsFirst roots t (suc n) s
    by next None none now =
        let same : t ≡ s = cc now in
        record {
          from = omega (arith, same);
          to = omega (arith, same);
          missing = subst (λ (u : ℕ). roots u ≡ None) same none;
          before = λ u above below. absurd (omega (arith, same, above, below));
        }
    by next (Some root) some later =
        let r = next later in
        record {
          from = omega (arith, r.from);
          to = omega (arith, r.to);
          missing = r.missing;
          before = λ u above below. split_at roots t u above (ap (λ (o : Option (List ℕ)). is_some o) some) (λ after. r.before u after below);
        }

first_among : (roots : Roots) (n t s : ℕ) → IsFirst roots t n s → missing_among roots t n ≡ Some s
first_among roots zero t s is = absurd (omega (arith, is.from, is.to))
first_among roots (suc n) t s is = by (first_among roots n (suc t) s) (roots t) refl
  where
    by : (IsFirst roots (suc t) n s → missing_among roots (suc t) n ≡ Some s) → (o : Option (List ℕ)) → roots t ≡ o → earlier_of t o (missing_among roots (suc t) n) ≡ Some s
    by next None none = elim (eq-or-lt_of_le is.from) [
      | inl same ↦ ap Some same
      | inr after ↦ absurd (cc (is.before t (omega arith) after, none))
    ]
    by next (Some root) some = elim (eq-or-lt_of_le is.from) [
      | inl same ↦ absurd (cc (subst (λ (u : ℕ). roots u ≡ None) (sym same) is.missing, some))
      | inr after ↦ next (record {
        from = omega (arith, after);
        to = omega (arith, is.to);
        missing = is.missing;
        before = λ u above below. is.before u (omega (arith, above)) below;
      })
    ]

pub missing_some : (roots : Roots) (start last s : ℕ) → (first_missing roots start last ≡ Some s) ↔ IsFirstMissing roots start last s
unfolding first_missing
missing_some roots start last s = (to, back)
  where
    to : missing_among roots start (suc last - start) ≡ Some s → IsFirstMissing roots start last s
    to is =
        let r = among_first roots (suc last - start) start s is in
        record { from = r.from; to = omega (arith, r.from, r.to); missing = r.missing; before = r.before }

    back : IsFirstMissing roots start last s → missing_among roots start (suc last - start) ≡ Some s
    back r = first_among roots (suc last - start) start s (record { from = r.from; to = omega (arith, r.from, r.to); missing = r.missing; before = r.before })

none_among : (roots : Roots) (n t : ℕ) → missing_among roots t n ≡ None → (u : ℕ) → t ≤ u → u < t + n → IsSome (roots u)
none_among roots zero t none u above below = absurd (omega (arith, above, below))
none_among roots (suc n) t none u above below = by (λ later after. none_among roots n (suc t) later u after (omega (arith, below))) (roots t) refl none
  where
    by : (missing_among roots (suc t) n ≡ None → suc t ≤ u → IsSome (roots u)) → (o : Option (List ℕ)) → roots t ≡ o → earlier_of t o (missing_among roots (suc t) n) ≡ None → IsSome (roots u)
    by next None is now = absurd (cc now)
    by next (Some root) is later = split_at roots t u above (ap (λ (o : Option (List ℕ)). is_some o) is) (next later)

-- where none is missing, each has a root
pub missing_none : (roots : Roots) (start last : ℕ) → first_missing roots start last ≡ None → (t : ℕ) → start ≤ t → t ≤ last → IsSome (roots t)
unfolding first_missing
missing_none roots start last none t from to = none_among roots (suc last - start) start none t from (omega (arith, from, to))

-- where each has a root, none is missing
pub all_known : (roots : Roots) (start last : ℕ) → ((t : ℕ) → start ≤ t → t ≤ last → IsSome (roots t)) → first_missing roots start last ≡ None
all_known roots start last each = by (first_missing roots start last) refl
  where
    by : (o : Option ℕ) → first_missing roots start last ≡ o → first_missing roots start last ≡ None
    by None is = is
    by (Some s) is =
        let r = (missing_some roots start last s).0 is in
        absurd (cc (each s r.from r.to, r.missing))
