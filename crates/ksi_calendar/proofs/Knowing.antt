-- The calendar of the seconds whose roots are known depends on these alone.
use Rattle.std.proofs.Common.{◌≡◌, ℕ, zero, suc, ◌+◌, ◌-◌, ◌<◌, ◌≤◌, Bool, true, false, List, [], ◌∷◌, length, refl, sym, ap, ◌∙◌, arith, is_some, Option, Some, None, nat_lt, if◌then◌else◌}
use Rattle.std.specs.Prelude.{IsSome, slice_index_or, unwrap_or}
use Rattle.std.proofs.lemmas.Bool.{le-ltb, ltb-false}
use Rattle.ksi_imprint.specs.Imprints.{zero_imprint}
use Rattle.ksi_calendar.specs.Calendar.{Seconds, calendar_leaf}
use Rattle.ksi_calendar.specs.Covered.{Roots, IsCovered, roots_among, covered_seconds, second_leaf}

-- ---- leaves

-- the root of the k-th of n seconds
among : (roots : Roots) (s n k : ℕ) → k < n → slice_index_or (roots_among roots s n) k zero_imprint ≡ unwrap_or (roots (s + k)) zero_imprint
among roots s zero k lt = absurd (omega (arith, lt))
among roots s (suc n) zero lt = let same : s ≡ s + 0 = omega arith in ap (λ (t : ℕ). unwrap_or (roots t) zero_imprint) same
among roots s (suc n) (suc k) lt =
    let same : suc s + k ≡ s + suc k = omega arith in
    among roots (suc s) n k (omega (arith, lt)) ∙ ap (λ (t : ℕ). unwrap_or (roots t) zero_imprint) same

leaf_by : (roots : Roots) (start last t : ℕ) (b : Bool) → nat_lt t start ≡ b → t ≤ last
    → (if b then zero_imprint else slice_index_or (roots_among roots start (suc last - start)) (t - start) zero_imprint) ≡ (if b then zero_imprint else unwrap_or (roots t) zero_imprint)
leaf_by roots start last t true is to = refl
leaf_by roots start last t false is to =
    let from = ltb-false t start is in
    let same : start + (t - start) ≡ t = omega (arith, from) in
    among roots start (suc last - start) (t - start) (omega (arith, from, to)) ∙ ap (λ (t : ℕ). unwrap_or (roots t) zero_imprint) same

pub leaf_is : (roots : Roots) (start last t : ℕ) → t ≤ last → calendar_leaf (covered_seconds roots start last) t ≡ second_leaf roots start t
unfolding covered_seconds
leaf_is roots start last t to = leaf_by roots start last t (nat_lt t start) refl to

-- ---- the calendar of known roots

listed : (roots : Roots) (t : ℕ) (xs : List (List ℕ)) → ((k : ℕ) → k < length xs → roots (t + k) ≡ Some (slice_index_or xs k zero_imprint)) → roots_among roots t (length xs) ≡ xs
listed roots t [] each = refl
listed roots t (x ∷ xs) each =
    let here : t ≡ t + 0 = omega arith in
    let first : roots t ≡ Some x = ap roots here ∙ each 0 (omega arith) in
    ap (λ (o : Option (List ℕ)). unwrap_or o zero_imprint ∷ roots_among roots (suc t) (length xs)) first
    ∙ ap (λ (l : List (List ℕ)). x ∷ l) (listed roots (suc t) xs (λ k lt.
    let next : suc t + k ≡ t + suc k = omega arith in
    ap roots next ∙ each (suc k) (omega (arith, lt))))

-- the leaf of a second from the start on
leaf_from : (seconds : Seconds) (k : ℕ) → calendar_leaf seconds (seconds.start + k) ≡ slice_index_or seconds.roots k zero_imprint
leaf_from seconds k =
    let from : seconds.start ≤ seconds.start + k = omega arith in
    let place : seconds.start + k - seconds.start ≡ k = omega arith in
    ap (λ (b : Bool). if b then zero_imprint else slice_index_or seconds.roots (seconds.start + k - seconds.start) zero_imprint) (le-ltb (seconds.start + k) seconds.start from)
    ∙ ap (λ (i : ℕ). slice_index_or seconds.roots i zero_imprint) place

pub seconds_is : (seconds : Seconds) (roots : Roots) (last : ℕ) → suc last ≡ seconds.start + length seconds.roots
    → ((t : ℕ) → seconds.start ≤ t → t ≤ last → roots t ≡ Some (calendar_leaf seconds t)) → seconds ≡ covered_seconds roots seconds.start last
unfolding covered_seconds
seconds_is seconds roots last end each =
    let with : List (List ℕ) → Seconds = λ all. record { start = seconds.start; roots = all } in
    let count : length seconds.roots ≡ suc last - seconds.start = omega (arith, end) in
    let all = listed roots seconds.start seconds.roots (λ k lt.
    each (seconds.start + k) (omega arith) (omega (arith, lt, end)) ∙ ap (λ (root : List ℕ). Some root) (leaf_from seconds k)) in
    ap with (sym all) ∙ ap (λ (n : ℕ). with (roots_among roots seconds.start n)) count

-- ---- more is known

value_of : {A : Type 0} (o : Option A) → IsSome o → (x : A) × (o ≡ Some x)
value_of None some = absurd (cc some)
value_of (Some x) some = (x, refl)

module _ (roots more : Roots) where
  roots_same : (n s : ℕ) → ((t : ℕ) → s ≤ t → t < s + n → roots t ≡ more t) → roots_among roots s n ≡ roots_among more s n
  roots_same zero s same = refl
  roots_same (suc n) s same =
      ap (λ o. unwrap_or o zero_imprint ∷ roots_among roots (suc s) n) (same s (omega arith) (omega arith))
      ∙ ap (λ all. unwrap_or (more s) zero_imprint ∷ all) (roots_same n (suc s) (λ t le lt. same t (omega (arith, le)) (omega (arith, lt))))

  module _ (start p : ℕ) (covered : IsCovered roots start p) (too : (t : ℕ) → start ≤ t → t ≤ p → (root : List ℕ) → roots t ≡ Some root → more t ≡ Some root) where
    pub covered_too : IsCovered more start p
    covered_too = record {
      from = covered.from;
      each = λ t from to. let is = value_of (roots t) (covered.each t from to) in ap (λ (o : Option (List ℕ)). is_some o) (too t from to is.0 is.1);
    }

    same_at : (t : ℕ) → start ≤ t → t ≤ p → roots t ≡ more t
    same_at t from to = let is = value_of (roots t) (covered.each t from to) in is.1 ∙ sym (too t from to is.0 is.1)

    pub seconds_same : covered_seconds roots start p ≡ covered_seconds more start p
    unfolding covered_seconds
    seconds_same =
        let with : List (List ℕ) → Seconds = λ all. record { start = start; roots = all } in
        ap with (roots_same (suc p - start) start (λ t le lt. same_at t le (omega (arith, le, lt))))
