-- Of the seconds from one on those are kept that are kept of the seconds that something is held for.
use Rattle.std.proofs.Common.{◌≡◌, ℕ, zero, suc, ◌+◌, ◌-◌, ◌<◌, ◌≤◌, List, [], ◌∷◌, ◌++◌, refl, sym, ap, subst, ◌∙◌, arith, append-nil, append_assoc, Option, Some, None}
use Rattle.ksi_aggtree.specs.declared.second.Second.{Second}
use Rattle.ksi_world.specs.Records.{kept_before, kept_among}
use Rattle.ksi_world.specs.Validity.{AreRising, EachKept}

-- a second behind others, before others
pub before_others : (xs : List Second) (o : Option Second) (later : List Second) → xs ++ kept_before o [] ++ later ≡ xs ++ kept_before o later
before_others xs None later = ap (λ ys. ys ++ later) (append-nil xs)
before_others xs (Some one) later = append_assoc xs (one ∷ []) later

module _ (kept : ℕ → Option Second) where
  -- those from one second on and before another
  abbrev pub kept_to : (from end : ℕ) → List Second
  kept_to from end = kept_among kept from (end - from)

  pub kept_next : (from end : ℕ) → from < end → kept_to from end ≡ kept_before (kept from) (kept_to (from + 1) end)
  kept_next from end lt =
      let more : end - from ≡ suc (end - suc from) = omega (arith, lt) in
      let next : suc from ≡ from + 1 = omega arith in
      ap (λ n. kept_among kept from n) more ∙ ap (λ u. kept_before (kept from) (kept_among kept u (end - u))) next

  -- seconds that are not kept are skipped
  pub kept_skips : (n from to end : ℕ) → to ≡ from + n → to ≤ end → ((t : ℕ) → from ≤ t → t < to → kept t ≡ None) → kept_to from end ≡ kept_to to end
  kept_skips zero from to end is le none = let same : from ≡ to = omega (arith, is) in ap (λ u. kept_among kept u (end - u)) same
  kept_skips (suc n) from to end is le none =
      kept_next from end (omega (arith, is, le))
      ∙ ap (λ o. kept_before o (kept_to (from + 1) end)) (none from (omega arith) (omega (arith, is)))
      ∙ kept_skips n (from + 1) to end (omega (arith, is)) le (λ t low up. none t (omega (arith, low)) up)

  pub kept_none : (from end : ℕ) → from ≤ end → ((t : ℕ) → from ≤ t → t < end → kept t ≡ None) → kept_to from end ≡ []
  kept_none from end le none =
      let nothing : end - end ≡ 0 = omega arith in
      let so : end ≡ from + (end - from) = omega (arith, le) in
      let last : end ≤ end = omega arith in
      kept_skips (end - from) from end end so last none ∙ ap (λ n. kept_among kept end n) nothing

  -- a second that is not skipped
  pub kept_goes : (xs : List Second) (from second end : ℕ) → from ≤ second → second < end → ((t : ℕ) → from ≤ t → t < second → kept t ≡ None) →
      xs ++ kept_before (kept second) [] ++ kept_to (second + 1) end ≡ xs ++ kept_to from end
  kept_goes xs from second end le lt none =
      let so : second ≡ from + (second - from) = omega (arith, le) in
      let up : second ≤ end = omega (arith, lt) in
      before_others xs (kept second) (kept_to (second + 1) end)
      ∙ ap (λ ys. xs ++ ys) (sym (kept_skips (second - from) from second end so up none ∙ kept_next second end lt))

  -- WHAT HOLDS OF EACH

  module _ (second_is : (t : ℕ) (one : Second) → kept t ≡ Some one → one.second ≡ t) where
    lower : (from to : ℕ) (ks : List Second) → to ≤ from → AreRising from ks → AreRising to ks
    lower from to [] le rising = tt
    lower from to (k ∷ ks) le rising = (omega (arith, le, rising.0), rising.1)

    pub among_rising : (lo n : ℕ) → AreRising lo (kept_among kept lo n)
    among_rising lo zero = tt
    among_rising lo (suc n) = by (kept lo) refl (among_rising (suc lo) n)
      where
        by : (o : Option Second) → kept lo ≡ o → AreRising (suc lo) (kept_among kept (suc lo) n) → AreRising lo (kept_before o (kept_among kept (suc lo) n))
        by None is later = lower (suc lo) lo (kept_among kept (suc lo) n) (omega arith) later
        by (Some one) is later = let same = second_is lo one is in (omega (arith, same), subst (λ t. AreRising (suc t) (kept_among kept (suc lo) n)) (sym same) later)

  pub among_each : (P : Second → Type 0) (lo n : ℕ) → ((t : ℕ) (one : Second) → lo ≤ t → t < lo + n → kept t ≡ Some one → P one) → EachKept P (kept_among kept lo n)
  among_each P lo zero each = tt
  among_each P lo (suc n) each = by (kept lo) refl (among_each P (suc lo) n (λ t one le lt. each t one (omega (arith, le)) (omega (arith, lt))))
    where
      by : (o : Option Second) → kept lo ≡ o → EachKept P (kept_among kept (suc lo) n) → EachKept P (kept_before o (kept_among kept (suc lo) n))
      by None is later = later
      by (Some one) is later = (each lo one (omega arith) (omega arith) is, later)
