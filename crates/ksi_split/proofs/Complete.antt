-- Complete parts, and how they come with one leaf more.
use Rattle.std.proofs.Common.{◌≡◌, inl, inr, ℕ, zero, suc, ◌+◌, ◌-◌, ◌*◌, ◌/◌, ◌%◌, ◌<◌, ◌≤◌, List, [], ◌∷◌, ◌++◌, length, get_or, refl, sym, ap, ◌∙◌, arith, add-one, length-append}
use Rattle.ksi_split.specs.Upward.{halves, whole}
use Rattle.ksi_split.proofs.Powers.{lt_cases, le_cases, halves_rise}
use Rattle.ksi_split.specs.Leaves.{leaf_at}
use Rattle.ksi_split.specs.Stored.{Stored, zero_part, parts, row_of, row_at, kept_part, EndsAt}
use Rattle.std.proofs.lemmas.List.{get_or_append_left}
use Rattle.std.proofs.Math.Seq.{get_or-append_seam}

-- ---- counts with one leaf more

pub one_more : (n top k : ℕ) → EndsAt n top → k ≤ top → halves k (n + 1) ≡ halves k n + 1
one_more n top zero h le = refl
one_more n top (suc k) h le = omega (arith, one_more n top k h (omega arith), h.odd k (omega arith))

pub no_more : (n top k : ℕ) → EndsAt n top → top < k → halves k (n + 1) ≡ halves k n
no_more n top zero h lt = absurd (omega arith)
no_more n top (suc k) h lt = elim (le_cases k top) [
  | inl le ↦ (let e : k ≡ top = omega arith in
      let even : halves k n % 2 ≡ 0 = (ap (λ (i : ℕ). halves i n % 2) e ∙ h.even) in
      omega (arith, one_more n top k h le))
  | inr above ↦ ap (λ (i : ℕ). i / 2) (no_more n top k h above)
]

module _ {A : Type 0} (join : A → A → A) where
  -- a part of leaves that agree
  pub whole_same : (f g : ℕ → A) (total k j : ℕ) → ((i : ℕ) → i < total → f i ≡ g i) → j < halves k total → whole join f k j ≡ whole join g k j
  unfolding whole
  whole_same f g total zero j same lt = same j lt
  whole_same f g total (suc k) j same lt = cc (whole_same f g total k (2 * j) same (omega arith), whole_same f g total k (2 * j + 1) same (omega arith))

  -- a part that lies before the start
  pub whole_before : (f : ℕ → A) (start : ℕ) (before : A) (k j : ℕ) → ((i : ℕ) → i < start → f i ≡ before) → j < halves k start → whole join f k j ≡ zero_part join before k
  unfolding whole zero_part
  whole_before f start before zero j same lt = same j lt
  whole_before f start before (suc k) j same lt = cc (whole_before f start before k (2 * j) same (omega arith), whole_before f start before k (2 * j + 1) same (omega arith))

  -- the part of the next level, all of whose leaves are `before`
  pub zero_step : (before part : A) (k : ℕ) → 0 < k → part ≡ zero_part join before (k - 1) → join part part ≡ zero_part join before k
  unfolding zero_part
  zero_step before part zero some is = absurd (omega arith)
  zero_step before part (suc k) some is = let below : suc k - 1 ≡ k = omega arith in rw (is, below) refl

  pub length-parts : (f : ℕ → A) (k first n : ℕ) → length (parts join f k first n) ≡ n
  unfolding parts
  length-parts f k first zero = refl
  length-parts f k first (suc n) = rw (length-append, length-parts f k first n) (omega arith)

  pub parts_same : (f g : ℕ → A) (total k first n : ℕ) → ((i : ℕ) → i < total → f i ≡ g i) → first + n ≤ halves k total → parts join f k first n ≡ parts join g k first n
  unfolding parts
  parts_same f g total k first zero same le = refl
  parts_same f g total k first (suc n) same le = cc (parts_same f g total k first n same (omega arith), whole_same f g total k (first + n) same (omega arith))

  pub parts_more : (f : ℕ → A) (k first n : ℕ) → parts join f k first (n + 1) ≡ parts join f k first n ++ whole join f k (first + n) ∷ []
  unfolding parts
  parts_more f k first n = rw add-one refl

  pub get-parts : (f : ℕ → A) (k first n i : ℕ) (d : A) → i < n → get_or (parts join f k first n) i d ≡ whole join f k (first + i)
  unfolding parts
  get-parts f k first zero i d lt = absurd (omega arith)
  get-parts f k first (suc n) i d lt = elim (lt_cases i n) [
    | inl t ↦ get_or_append_left (parts join f k first n) (whole join f k (first + n) ∷ []) d i (omega (arith, length-parts f k first n)) ∙ get-parts f k first n i d t.1
    | inr w ↦ (let e : i ≡ n = omega arith in
        ap (λ (m : ℕ). get_or (parts join f k first n ++ whole join f k (first + n) ∷ []) m d) (e ∙ sym (length-parts f k first n))
        ∙ get_or-append_seam (parts join f k first n) (whole join f k (first + n)) [] d ∙ ap (λ (m : ℕ). whole join f k (first + m)) (sym e))
  ]

  pub kept_before : (start : ℕ) (before : A) (rows : List (Stored A)) (k j : ℕ) → j < halves k start → kept_part join before start rows k j ≡ zero_part join before k
  unfolding kept_part
  kept_before start before rows k j lt = elim (lt_cases j (halves k start)) [ inl t ↦ rw t.0 refl | inr w ↦ absurd (omega arith) ]

  pub kept_row : (start : ℕ) (before : A) (rows : List (Stored A)) (k j : ℕ) → halves k start ≤ j → kept_part join before start rows k j ≡ get_or (row_at rows k) (j - halves k start) before
  unfolding kept_part
  kept_row start before rows k j le = elim (lt_cases j (halves k start)) [ inl t ↦ absurd (omega arith) | inr w ↦ rw w.0 refl ]

  -- the part that is kept, where one is
  pub kept_is : (start : ℕ) (before : A) (f : ℕ → A) (rows : List (Stored A)) (k j n : ℕ)
      → ((i : ℕ) → i < start → f i ≡ before) → row_at rows k ≡ parts join f k (halves k start) n → j < halves k start + n → kept_part join before start rows k j ≡ whole join f k j
  unfolding kept_part
  kept_is start before f rows k j n same row lt = elim (lt_cases j (halves k start)) [
    | inl t ↦ rw t.0 (sym (whole_before f start before k j same t.1))
    | inr w ↦ (let e : halves k start + (j - halves k start) ≡ j = omega arith in
        rw (w.0, row) (get-parts f k (halves k start) n (j - halves k start) before (omega arith) ∙ ap (whole join f k) e))
  ]

  -- the row with one leaf more, where it completes a part
  pub row_more : (f : ℕ → A) (start n k : ℕ) → start ≤ n → halves k (n + 1) ≡ halves k n + 1 → row_of join f start (n + 1) k ≡ row_of join f start n k ++ whole join f k (halves k n) ∷ []
  row_more f start n k le more =
      let rise = halves_rise k start n le in
      let count : halves k (n + 1) - halves k start ≡ halves k n - halves k start + 1 = omega arith in
      let place : halves k start + (halves k n - halves k start) ≡ halves k n = omega arith in
      ap (parts join f k (halves k start)) count ∙ parts_more f k (halves k start) (halves k n - halves k start) ∙ ap (λ (j : ℕ). parts join f k (halves k start) (halves k n - halves k start) ++ whole join f k j ∷ []) place

  pub row_same : (f : ℕ → A) (start n k : ℕ) → halves k (n + 1) ≡ halves k n → row_of join f start (n + 1) k ≡ row_of join f start n k
  row_same f start n k e = ap (λ (m : ℕ). parts join f k (halves k start) (m - halves k start)) e

  -- the part above, from the one that is kept and the one that was added
  pub node_step : (f : ℕ → A) (start : ℕ) (before : A) (rows : List (Stored A)) (k n : ℕ)
      → ((i : ℕ) → i < start → f i ≡ before) → start ≤ n → halves k n % 2 ≡ 1 → row_at rows k ≡ row_of join f start (n + 1) k
      → join (kept_part join before start rows k (halves k n - 1)) (whole join f k (halves k n)) ≡ whole join f (suc k) (halves (suc k) n)
  unfolding whole
  node_step f start before rows k n same le odd row =
      let rise : halves k n ≤ halves k (n + 1) = halves_rise k n (n + 1) (omega arith) in
      let late : halves k start ≤ halves k n = halves_rise k start n le in
      let left = kept_is start before f rows k (halves k n - 1) (halves k (n + 1) - halves k start) same row (omega arith) in
      let even : halves k n - 1 ≡ 2 * (halves k n / 2) = omega arith in
      let next : halves k n ≡ 2 * (halves k n / 2) + 1 = omega arith in
      cc (left, even, next)

pub leaf_before : {A : Type 0} (start : ℕ) (before : A) (items : List A) (i : ℕ) → i < start → leaf_at start before items i ≡ before
leaf_before start before items i lt = elim (lt_cases i start) [ inl t ↦ rw t.0 refl | inr w ↦ absurd (omega arith) ]

pub leaf_last : {A : Type 0} (start : ℕ) (before : A) (items : List A) (x : A) → leaf_at start before (items ++ x ∷ []) (start + length items) ≡ x
leaf_last start before items x = elim (lt_cases (start + length items) start) [
  | inl t ↦ absurd (omega arith)
  | inr w ↦ (let e : start + length items - start ≡ length items = omega arith in rw (w.0, e) (get_or-append_seam items x [] before))
]

-- a leaf that stood before the last one came
pub leaf_kept : {A : Type 0} (start : ℕ) (before : A) (items : List A) (x : A) (i : ℕ) → i < start + length items → leaf_at start before items i ≡ leaf_at start before (items ++ x ∷ []) i
leaf_kept start before items x i lt = elim (lt_cases i start) [
  | inl t ↦ rw t.0 refl
  | inr w ↦ rw w.0 (sym (get_or_append_left items (x ∷ []) before (i - start) (omega arith)))
]
