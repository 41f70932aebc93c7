-- Where both roots that a front leads to are given, what its last imprint is joined with.
use Rattle.std.proofs.Common.{◌≡◌, ◌≢◌, ◌+◌, subst, ℕ, zero, suc, ◌+◌, ◌-◌, ◌<◌, ◌≤◌, List, [], ◌∷◌, ◌++◌, length, reverse, true, false, Option, Some, None, Result, Ok, Err, inl, inr, refl, sym, ap, ◌∙◌, arith}
use Rattle.std.specs.Prelude.{IfNone, IfOk, IfSome, Contains}
use Rattle.ksi_split.specs.Powers.{split_of}
use Rattle.ksi_calendar.specs.Climbing.{calendar_join, calendar_join_text}
use Rattle.ksi_consistency.specs.declared.roots.Roots.{Roots}
use Rattle.ksi_consistency.specs.Front.{count_within, count_of}
use Rattle.ksi_consistency.specs.Checked.{roots_from, texts_from, joined_left, joined_right}
use Rattle.ksi_consistency.proofs.Cases.{lt_cases, eq_cases, Splits}
use Rattle.ksi_consistency.proofs.Accepting.{split_front}
use Rattle.ksi_consistency.proofs.Fronts.{count_left, count_right}
use Rattle.ksi_consistency.proofs.Leading.{last_first, roots_none, roots_all, roots_left, roots_down_right}

module _ (image : List ℕ → List ℕ) (given : List ℕ) (m n : ℕ) (front : List (List ℕ)) (a b : List ℕ) (roots : roots_from image given m n (reverse front) ≡ record { old = a; new = b }) where
  -- no imprint is left
  pub meet_none : length front ≡ 0 → a ≡ b
  meet_none none =
      let e : record { old = a; new = b } ≡ record { old = given; new = given } = sym roots ∙ roots_none image given m n front none in
      ap (λ (r : Roots). r.old) e ∙ sym (ap (λ (r : Roots). r.new) e)

  module _ (inner : List (List ℕ)) (x : List ℕ) (is : front ≡ inner ++ x ∷ []) where
    start : record { old = a; new = b } ≡ roots_from image given m n (x ∷ reverse inner)
    start = sym roots ∙ ap (roots_from image given m n) (last_first front inner x is)

    pub meet_all : m ≡ n → a ≡ b
    meet_all all =
        let e : record { old = a; new = b } ≡ record { old = x; new = x } = start ∙ roots_all image given m n x (reverse inner) all in
        ap (λ (r : Roots). r.old) e ∙ sym (ap (λ (r : Roots). r.new) e)

    module _ (k : ℕ) (part : Roots) (other : m ≢ n) (is_split : k ≡ split_of n) (led : part ≡ roots_from image given m k (reverse inner)) (most : m ≤ k) where
      both_left : record { old = a; new = b } ≡ joined_right image part x
      both_left = start ∙ roots_left image given m n k x (reverse inner) other is_split most ∙ ap (λ (r : Roots). joined_right image r x) (sym led)

      pub meet_left_old : part.old ≡ a
      meet_left_old = sym (ap (λ (r : Roots). r.old) both_left)

      pub meet_left_new : calendar_join image part.new x ≡ b
      meet_left_new = sym (ap (λ (r : Roots). r.new) both_left)

    module _ (k first rest : ℕ) (part : Roots) (other : m ≢ n) (is_split : k ≡ split_of n) (above : k < m) (few : first ≡ m - k) (left : rest ≡ n - k) (led : part ≡ roots_from image given first rest (reverse inner)) where
      both_right : record { old = a; new = b } ≡ joined_left image part x
      both_right = start ∙ roots_down_right image given m n k first rest x (reverse inner) other is_split above few left ∙ ap (λ (r : Roots). joined_left image r x) (sym led)

      pub meet_right_old : calendar_join image x part.old ≡ a
      meet_right_old = sym (ap (λ (r : Roots). r.old) both_right)

      pub meet_right_new : calendar_join image x part.new ≡ b
      meet_right_new = sym (ap (λ (r : Roots). r.new) both_right)

-- ---- how many imprints are left

-- none are needed only where the first leaves are all
pub all_of : Splits → (m n : ℕ) → 0 < m → m ≤ n → count_of m n true ≤ 0 → m ≡ n
all_of splits m n some most none = elim (eq_cases m n) [
  | inl same ↦ same.1
  | inr other ↦ elim (lt_cases (split_of n) m) [
    | inl right ↦ absurd (omega (arith, none, count_right splits m n (split_of n) true refl right.1 (omega (arith, other.1, most))))
    | inr left ↦ absurd (omega (arith, none, count_left splits m n (split_of n) true some refl left.1 (omega (arith, other.1, most, some))))
  ]
]

fewer : (f m n : ℕ) → count_within f m n true ≤ count_within f m n false
unfolding count_within
fewer zero m n = omega arith
fewer (suc f) m n = elim (eq_cases m n) [
  | inl all ↦ rw all.0 (omega arith)
  | inr part ↦ elim (lt_cases (split_of n) m) [
    | inl right ↦ rw (part.0, right.0) (omega arith)
    | inr left ↦ rw (part.0, left.0) (omega (arith, fewer f m (split_of n)))
  ]
]

-- a given root needs no more imprints
pub given_fewer : (m n : ℕ) → count_of m n true ≤ count_of m n false
unfolding count_of
given_fewer m n = fewer n m n

-- where the first leaves go on behind the split of all, they are split there too
pub split_same : Splits → (m n k : ℕ) → k ≡ split_of n → 0 < k → k < m → m ≤ n → split_of m ≡ k
split_same splits m n k is some above most =
    let s = (splits n k (omega (arith, some, above, most))).1 is in
    sym ((splits m k (omega (arith, above, some))).0 (split_front m n k s above most))

-- what is said where there is none
pub on_none : {A : Type 0} (o : Option A) (P : Type 0) → o ≡ None → IfNone o P → P
on_none None P is told = told
on_none (Some x) P is told = absurd (cc is)

-- ---- the strings that are shown

module _ (image : List ℕ → List ℕ) (given : List ℕ) where
  pub texts_left : (m n k : ℕ) (x : List ℕ) (inner : List (List ℕ)) → m ≢ n → k ≡ split_of n → m ≤ k
      → texts_from image given m n (x ∷ inner) ≡ calendar_join_text (roots_from image given m k inner).new x ∷ texts_from image given m k inner
  unfolding texts_from
  texts_left m n k x inner part is most = elim (eq_cases m n) [
    | inl same ↦ absurd (part same.1)
    | inr other ↦ elim (lt_cases (split_of n) m) [ inl right ↦ absurd (omega (arith, right.1, most, is)) | inr left ↦ rw (other.0, left.0, is) refl ]
  ]

  pub texts_right : (m n k first rest : ℕ) (x : List ℕ) (inner : List (List ℕ)) → m ≢ n → k ≡ split_of n → k < m → first ≡ m - k → rest ≡ n - k
      → texts_from image given m n (x ∷ inner) ≡ calendar_join_text x (roots_from image given first rest inner).old ∷ calendar_join_text x (roots_from image given first rest inner).new ∷ texts_from image given first rest inner
  unfolding texts_from
  texts_right m n k first rest x inner part is above few left = elim (eq_cases m n) [
    | inl same ↦ absurd (part same.1)
    | inr other ↦ elim (lt_cases (split_of n) m) [ inl right ↦ rw (other.0, right.0, few, left, is) refl | inr below ↦ absurd (omega (arith, below.1, above, is)) ]
  ]

-- one behind a first one, and that one
pub behind_one : (x y : List ℕ) (xs : List (List ℕ)) → Contains xs y → Contains (x ∷ xs) y
behind_one x y xs (k, below, is) = (suc k, omega (arith, below), is)

pub first_one : (x y : List ℕ) (xs : List (List ℕ)) → y ≡ x → Contains (x ∷ xs) y
first_one x y xs same = (0, omega arith, sym same)

module _ (image : List ℕ → List ℕ) (given : List ℕ) (m n k : ℕ) (front inner : List (List ℕ)) (x : List ℕ) (is : front ≡ inner ++ x ∷ []) (other : m ≢ n) (is_split : k ≡ split_of n) (text : List ℕ) where
  front_is : texts_from image given m n (x ∷ reverse inner) ≡ texts_from image given m n (reverse front)
  front_is = sym (ap (texts_from image given m n) (last_first front inner x is))

  module _ (part : Roots) (led : part ≡ roots_from image given m k (reverse inner)) (most : m ≤ k) where
    all_left : calendar_join_text part.new x ∷ texts_from image given m k (reverse inner) ≡ texts_from image given m n (reverse front)
    all_left =
        ap (λ (r : Roots). calendar_join_text r.new x ∷ texts_from image given m k (reverse inner)) led
        ∙ sym (texts_left image given m n k x (reverse inner) other is_split most) ∙ front_is

    pub left_first : text ≡ calendar_join_text part.new x → Contains (texts_from image given m n (reverse front)) text
    left_first same = subst (λ (texts : List (List ℕ)). Contains texts text) all_left (first_one (calendar_join_text part.new x) text (texts_from image given m k (reverse inner)) same)

    pub left_behind : Contains (texts_from image given m k (reverse inner)) text → Contains (texts_from image given m n (reverse front)) text
    left_behind has = subst (λ (texts : List (List ℕ)). Contains texts text) all_left (behind_one (calendar_join_text part.new x) text (texts_from image given m k (reverse inner)) has)

  module _ (first rest : ℕ) (part : Roots) (led : part ≡ roots_from image given first rest (reverse inner)) (above : k < m) (few : first ≡ m - k) (left : rest ≡ n - k) where
    all_right : calendar_join_text x part.old ∷ calendar_join_text x part.new ∷ texts_from image given first rest (reverse inner) ≡ texts_from image given m n (reverse front)
    all_right =
        ap (λ (r : Roots). calendar_join_text x r.old ∷ calendar_join_text x r.new ∷ texts_from image given first rest (reverse inner)) led
        ∙ sym (texts_right image given m n k first rest x (reverse inner) other is_split above few left) ∙ front_is

    pub right_old : text ≡ calendar_join_text x part.old → Contains (texts_from image given m n (reverse front)) text
    right_old same = subst (λ (texts : List (List ℕ)). Contains texts text) all_right (first_one (calendar_join_text x part.old) text (calendar_join_text x part.new ∷ texts_from image given first rest (reverse inner)) same)

    pub right_new : text ≡ calendar_join_text x part.new → Contains (texts_from image given m n (reverse front)) text
    right_new same = subst (λ (texts : List (List ℕ)). Contains texts text) all_right
        (behind_one (calendar_join_text x part.old) text (calendar_join_text x part.new ∷ texts_from image given first rest (reverse inner)) (first_one (calendar_join_text x part.new) text (texts_from image given first rest (reverse inner)) same))

    pub right_behind : Contains (texts_from image given first rest (reverse inner)) text → Contains (texts_from image given m n (reverse front)) text
    right_behind has = subst (λ (texts : List (List ℕ)). Contains texts text) all_right
        (behind_one (calendar_join_text x part.old) text (calendar_join_text x part.new ∷ texts_from image given first rest (reverse inner)) (behind_one (calendar_join_text x part.new) text (texts_from image given first rest (reverse inner)) has))

-- three facts of a value that is there, or none
pub all_three : {A E : Type 0} (r : Result A E) (P Q R S : A → Type 0) → IfOk r P → IfOk r Q → IfOk r R → ((x : A) → P x → Q x → R x → S x) → IfOk r S
all_three (Ok x) P Q R S p q r f = f x p q r
all_three (Err e) P Q R S p q r f = tt

-- what is said where there is one
pub on_some : {A : Type 0} (o : Option A) (x : A) (P : A → Type 0) → o ≡ Some x → IfSome o P → P x
on_some None x P is told = absurd (cc is)
on_some {A = A} (Some y) x P is told = let same : y ≡ x = cc is in subst P same told
