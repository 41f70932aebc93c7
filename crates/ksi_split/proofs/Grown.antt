-- Rows after a growth, and with one leaf more.
use Rattle.std.proofs.Common.{◌≡◌, ℕ, ◌+◌, ◌-◌, ◌^◌, ◌<◌, ◌≤◌, List, [], ◌∷◌, ◌++◌, length, refl, sym, ap, ◌∙◌, arith}
use Rattle.ksi_split.specs.Upward.{halves, whole}
use Rattle.ksi_split.proofs.Powers.{halves_rise}
use Rattle.ksi_split.specs.Leaves.{leaf_at}
use Rattle.ksi_split.specs.Stored.{Stored, row_at, row_of, AreRows, kept_part, parts}
use Rattle.ksi_split.proofs.Complete.{parts_same, row_more, leaf_last, leaf_kept, leaf_before, length-parts, kept_is}

module _ {A : Type 0} (join : A → A → A) (start : ℕ) (before : A) where
  -- the lowest row
  pub items_added : (items : List A) (x : A) (new : List A) (n : ℕ) → n ≡ start + length items → items ≡ row_of join (leaf_at start before (items ++ x ∷ [])) start n 0
      → new ≡ row_of join (leaf_at start before (items ++ x ∷ [])) start (n + 1) 0 → new ≡ items ++ x ∷ []
  unfolding whole
  items_added items x new n count old now =
      now ∙ row_more join (leaf_at start before (items ++ x ∷ [])) start n 0 (omega arith) refl
      ∙ ap (λ (xs : List A). xs ++ leaf_at start before (items ++ x ∷ []) n ∷ []) (sym old)
      ∙ ap (λ (y : A). items ++ y ∷ []) (ap (leaf_at start before (items ++ x ∷ [])) count ∙ leaf_last start before items x)

  none_is : (k : ℕ) (items : List A) (n : ℕ) → n ≡ start → [] ≡ row_of join (leaf_at start before items) start n k
  unfolding parts
  none_is k items n e = let z : halves k n - halves k start ≡ 0 = (let same = ap (halves k) e in omega arith) in rw z refl

module _ {A : Type 0} (join : A → A → A) (start : ℕ) (before : A) where
  -- what the rows are with regard to the leaves that are to be
  pub rows_ready : (rows grown : List (Stored A)) (x : A) → AreRows join start before rows → ((k : ℕ) → row_at grown k ≡ row_at rows k)
      → (k : ℕ) → k < 64 → row_at grown k ≡ row_of join (leaf_at start before (row_at grown 0 ++ x ∷ [])) start (start + length (row_at rows 0)) k
  rows_ready rows grown x are same k few =
      let n = start + length (row_at rows 0) in
      let late : halves k start ≤ halves k n = halves_rise k start n (omega arith) in
      same k ∙ are.each k few
      ∙ parts_same join (leaf_at start before (row_at rows 0)) (leaf_at start before (row_at rows 0 ++ x ∷ [])) n k (halves k start) (halves k n - halves k start) (leaf_kept start before (row_at rows 0) x) (omega arith)
      ∙ ap (λ (xs : List A). row_of join (leaf_at start before (xs ++ x ∷ [])) start n k) (sym (same 0))

  -- what is kept of a complete part
  pub part_kept : (rows : List (Stored A)) (k j : ℕ) → AreRows join start before rows → k < 64 → j < halves k (start + length (row_at rows 0))
      → kept_part join before start rows k j ≡ whole join (leaf_at start before (row_at rows 0)) k j
  part_kept rows k j are few lt =
      let n = start + length (row_at rows 0) in
      let late : halves k start ≤ halves k n = halves_rise k start n (omega arith) in
      kept_is join start before (leaf_at start before (row_at rows 0)) rows k j (halves k n - halves k start) (leaf_before start before (row_at rows 0)) (are.each k few) (omega arith)

  pub part_within : (rows : List (Stored A)) (k j : ℕ) → AreRows join start before rows → k < 64 → j < halves k (start + length (row_at rows 0)) → j < halves k start + length (row_at rows k)
  part_within rows k j are few lt =
      let n = start + length (row_at rows 0) in
      let size = ap length (are.each k few) in
      omega (arith, size, length-parts join (leaf_at start before (row_at rows 0)) k (halves k start) (halves k n - halves k start))

  pub empty_are : (rows : List (Stored A)) → start ≤ 2 ^ 63 → ((k : ℕ) → row_at rows k ≡ []) → AreRows join start before rows
  empty_are rows small none =
      let size : length (row_at rows 0) ≡ 0 = ap length (none 0) in
      record {
        few = omega arith;
        each = λ k few. none k ∙ none_is join start before k (row_at rows 0) (start + length (row_at rows 0)) (omega arith);
      }
