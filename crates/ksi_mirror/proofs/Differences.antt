-- Where two lists of items differ first.
use Rattle.std.proofs.Common.{◌≡◌, ◌⊎◌, inl, inr, ℕ, ◌+◌, ◌<◌, ◌≤◌, min, Bool, true, false, List, length, take, get_or, Some, None, refl, sym, subst, ◌∙◌, arith}
use Rattle.std.specs.Prelude.{slice_get}
use Rattle.std.proofs.lemmas.List.{take_more_same}
use Rattle.std.proofs.lemmas.Option.{slice_get_read, slice_get_cases}
use Rattle.ksi_aggtree.specs.declared.item.Item.{Item}
use Rattle.ksi_mirror.specs.Merging.{FirstDifferAt}

module _ (xs ys : List Item) (k : ℕ) (in_first : k < length xs) (in_second : k < length ys) (x y : Item) (first : x ≡ get_or xs k x) (second : y ≡ get_or ys k y) (before : take k xs ≡ take k ys) where
  pub differ_here : (x ≡ y → ⊥) → FirstDifferAt xs ys k
  differ_here other = record {
    before = before;
    there = λ e. other (
        let one : slice_get xs k ≡ Some x = slice_get_read xs (length xs) k x refl in_first first in
        let two : slice_get ys k ≡ Some y = slice_get_read ys (length ys) k y refl in_second second in
        cc);
  }

  pub same_here : x ≡ y → take (k + 1) xs ≡ take (k + 1) ys
  same_here same = take_more_same xs ys k x in_first in_second before (sym first ∙ same ∙ subst (λ d. y ≡ get_or ys k d) (sym same) second)

-- one of both has ended
pub ends_differ : (xs ys : List Item) (k most : ℕ) → most ≡ min (length xs) (length ys) → k ≤ most → most ≤ k → (length xs ≡ length ys → ⊥) → take k xs ≡ take k ys → FirstDifferAt xs ys most
ends_differ xs ys k most is le ge other before = record {
  before = (let same : k ≡ most = omega arith in subst (λ n. take n xs ≡ take n ys) same before);
  there = λ e. other (by e (slice_get_cases xs most).1 (slice_get_cases ys most).1);
}
  where
    by : slice_get xs most ≡ slice_get ys most → ((x : Item) × (most < length xs) × (slice_get xs most ≡ Some x) × (get_or xs most x ≡ x)) ⊎ ((length xs ≤ most) × (slice_get xs most ≡ None))
        → ((y : Item) × (most < length ys) × (slice_get ys most ≡ Some y) × (get_or ys most y ≡ y)) ⊎ ((length ys ≤ most) × (slice_get ys most ≡ None)) → length xs ≡ length ys
    by e (inl a) (inl b) = absurd (let p = a.1 in let q = b.1 in omega (arith, is, p, q))
    by e (inl a) (inr b) = absurd (let p = a.2 in let q = b.1 in cc)
    by e (inr a) (inl b) = absurd (let p = a.1 in let q = b.2 in cc)
    by e (inr a) (inr b) = (let p = a.0 in let q = b.0 in omega (arith, is, p, q))

-- a test that failed
pub not_same : {A : Type 0} (x y : A) (b : Bool) → (b ≡ true → x ≡ y) × (x ≡ y → b ≡ true) → b ≡ false → x ≡ y → ⊥
not_same x y b iff is same = absurd (let t = iff.1 same in cc)
