-- A front that is made is accepted, and what it is to be accepted.
use Rattle.std.proofs.Common.{◌≡◌, ℕ, zero, suc, ◌+◌, ◌-◌, ◌<◌, ◌≤◌, List, [], ◌∷◌, ◌++◌, length, reverse, Bool, true, false, IsTrue, if◌then◌else◌, inl, inr, ◌⊎◌, refl, sym, ap, ◌∙◌, arith, length-append, Ok, Err}
use Rattle.std.specs.Str.{bytes_eq}
use Rattle.std.proofs.lemmas.Slice.Eq.{bytes_eq-Decides}
use Rattle.std.proofs.lemmas.Bool.Decides.{not_from_Decides}
use Rattle.ksi_split.specs.Powers.{IsSplit, split_of}
use Rattle.ksi_split.specs.Trees.{tree}
use Rattle.ksi_calendar.specs.Climbing.{calendar_join}
use Rattle.ksi_calendar.specs.Calendar.{Seconds, calendar_leaf, calendar_tree, calendar_root}
use Rattle.ksi_consistency.specs.Front.{front_within, front_of, count_within, count_of, calendar_front, front_count}
use Rattle.ksi_consistency.specs.Checked.{roots_from, joined_left, joined_right, front_roots, roots_checked, front_checked}
use Rattle.ksi_consistency.specs.declared.roots.Roots.{Roots}
use Rattle.ksi_consistency.specs.declared.refusal.FrontRefusal.TheVariants.{Length, OldDiffers, NewDiffers}
use Rattle.ksi_consistency.proofs.Cases.{lt_cases, eq_cases, Splits, split_parts}
use Rattle.ksi_consistency.proofs.Leading.{last_first, roots_all, roots_end, roots_left, roots_right}

-- a front has as many imprints as are needed
module _ {A : Type 0} (join : A → A → A) (leaf : ℕ → A) where
  counted : (most m lo n : ℕ) (given : Bool) → length (front_within join leaf most m lo n given) ≡ count_within most m n given
  unfolding front_within count_within
  counted zero m lo n given = refl
  counted (suc most) m lo n given = elim (eq_cases m n) [
    | inl all ↦ rw all.0 (by given)
    | inr part ↦ elim (lt_cases (split_of n) m) [
      | inl right ↦ rw (part.0, right.0) (length-append (front_within join leaf most (m - split_of n) (lo + split_of n) (n - split_of n) false) (tree join leaf lo (split_of n) ∷ []) ∙ ap (λ (x : ℕ). x + 1) (counted most (m - split_of n) (lo + split_of n) (n - split_of n) false))
      | inr left ↦ rw (part.0, left.0) (length-append (front_within join leaf most m lo (split_of n) given) (tree join leaf (lo + split_of n) (n - split_of n) ∷ []) ∙ ap (λ (x : ℕ). x + 1) (counted most m lo (split_of n) given))
    ]
  ]
    where
      by : (given : Bool) → length (if given then [] else tree join leaf lo n ∷ []) ≡ (if given then 0 else 1)
      by true = refl
      by false = refl

pub front_counted : (image : List ℕ → List ℕ) (seconds : Seconds) (p1 p2 : ℕ) → length (calendar_front image seconds p1 p2) ≡ front_count p1 p2
unfolding front_of count_of
front_counted image seconds p1 p2 = counted (calendar_join image) (calendar_leaf seconds) (p2 + 1) (p1 + 1) 0 (p2 + 1) true

-- how calendar trees are cut, and that they depend on their own leaves alone
abbrev pub Cuts : (List ℕ → List ℕ) → Type 0
Cuts image = (seconds : Seconds) (lo n k : ℕ) → IsSplit n k → calendar_tree image seconds lo n ≡ calendar_join image (calendar_tree image seconds lo k) (calendar_tree image seconds (lo + k) (n - k))

abbrev pub OwnLeaves : (List ℕ → List ℕ) → Type 0
OwnLeaves image = (seconds other : Seconds) (lo n : ℕ) → 0 < n → ((t : ℕ) → lo ≤ t → t < lo + n → calendar_leaf seconds t ≡ calendar_leaf other t) → calendar_tree image seconds lo n ≡ calendar_tree image other lo n

-- a split of all leaves is one of the first ones that go on behind it
pub split_front : (m n k : ℕ) → IsSplit n k → k < m → m ≤ n → IsSplit m k
split_front m n k h above most = record { power = h.power; below = above; greatest = omega (arith, most, h.greatest) }

module _ (splits : Splits) (image : List ℕ → List ℕ) (cut : Cuts image) (own : OwnLeaves image) (old new : Seconds) (given : List ℕ) where
  leads : (most m lo n : ℕ) (whole : Bool) → n ≤ most → 0 < m → m ≤ n → (IsTrue whole → given ≡ calendar_tree image old lo m) → ((t : ℕ) → lo ≤ t → t < lo + m → calendar_leaf old t ≡ calendar_leaf new t)
      → roots_from image given m n (reverse (front_within (calendar_join image) (calendar_leaf new) most m lo n whole)) ≡ record { old = calendar_tree image old lo m; new = calendar_tree image new lo n }
  unfolding front_within
  leads zero m lo n whole le some fits is same = absurd (omega (arith, le, some, fits))
  leads (suc most) m lo n whole le some fits is same = elim (eq_cases m n) [
    | inl all ↦ rw all.0 (by whole is all.1)
    | inr part ↦ (let h = split_parts splits n (omega (arith, part.1, some, fits)) in
        let s = (splits n (split_of n) (omega (arith, part.1, some, fits))).1 refl in
        elim (lt_cases (split_of n) m) [
          | inl right ↦ rw (part.0, right.0) (let k = split_of n in
              let x = calendar_tree image new lo k in
              let inner = front_within (calendar_join image) (calendar_leaf new) most (m - k) (lo + k) (n - k) false in
              let on = leads most (m - k) (lo + k) (n - k) false (omega (arith, le, h.some)) (omega (arith, right.1)) (omega (arith, fits)) (λ no. absurd (cc no)) (λ t from below. same t (omega (arith, from)) (omega (arith, below, right.1))) in
              let first : x ≡ calendar_tree image old lo k = sym (own old new lo k h.some (λ t from below. same t from (omega (arith, below, right.1)))) in
              let olds : calendar_join image x (calendar_tree image old (lo + k) (m - k)) ≡ calendar_tree image old lo m = ap (λ (y : List ℕ). calendar_join image y (calendar_tree image old (lo + k) (m - k))) first ∙ sym (cut old lo m k (split_front m n k s right.1 fits)) in
              let news : calendar_join image x (calendar_tree image new (lo + k) (n - k)) ≡ calendar_tree image new lo n = sym (cut new lo n k s) in
              ap (roots_from image given m n) (last_first (inner ++ x ∷ []) inner x refl)
              ∙ roots_right image given m n k x (reverse inner) part.1 refl right.1
              ∙ ap (λ (r : Roots). joined_left image r x) on
              ∙ (λ i. record { old = olds i; new = news i }))
          | inr left ↦ rw (part.0, left.0) (let k = split_of n in
              let x = calendar_tree image new (lo + k) (n - k) in
              let inner = front_within (calendar_join image) (calendar_leaf new) most m lo k whole in
              let on = leads most m lo k whole (omega (arith, le, h.below)) some left.1 is same in
              let news : calendar_join image (calendar_tree image new lo k) x ≡ calendar_tree image new lo n = sym (cut new lo n k s) in
              ap (roots_from image given m n) (last_first (inner ++ x ∷ []) inner x refl)
              ∙ roots_left image given m n k x (reverse inner) part.1 refl left.1
              ∙ ap (λ (r : Roots). joined_right image r x) on
              ∙ (λ i. record { old = calendar_tree image old lo m; new = news i }))
        ])
  ]
    where
      by : (whole : Bool) → (IsTrue whole → given ≡ calendar_tree image old lo m) → m ≡ n → roots_from image given m n (reverse (if whole then [] else calendar_tree image new lo n ∷ [])) ≡ record { old = calendar_tree image old lo m; new = calendar_tree image new lo n }
      by true is all =
          let first : given ≡ calendar_tree image old lo m = is refl in
          let last : given ≡ calendar_tree image new lo n = first ∙ own old new lo m some same ∙ ap (calendar_tree image new lo) all in
          roots_end image given m n ∙ (λ i. record { old = first i; new = last i })
      by false is all =
          let x = calendar_tree image new lo n in
          let first : x ≡ calendar_tree image old lo m = sym (own old new lo m some same ∙ ap (calendar_tree image new lo) all) in
          ap (roots_from image given m n) (last_first (x ∷ []) [] x refl) ∙ roots_all image given m n x (reverse []) all ∙ (λ i. record { old = first i; new = x })

-- ---- both roots that a front leads to, and its answer

bytes_same : (a : List ℕ) → bytes_eq a a ≡ true
bytes_same a = by (bytes_eq a a) refl
  where
    by : (t : Bool) → bytes_eq a a ≡ t → bytes_eq a a ≡ true
    by true e = e
    by false e = absurd (not_from_Decides (bytes_eq a a) (bytes_eq-Decides a a) e refl)

pub accepted_by : (image : List ℕ → List ℕ) (p1 p2 : ℕ) (old new : List ℕ) (front : List (List ℕ)) → length front ≡ front_count p1 p2 → front_roots image p1 p2 old front ≡ record { old = old; new = new } → front_checked image p1 p2 old new front ≡ Ok tt
accepted_by image p1 p2 old new front count lead = elim (eq_cases (length front) (front_count p1 p2)) [
  | inr other ↦ absurd (other.1 count)
  | inl same ↦ rw (same.0, lead, bytes_same old, bytes_same new) refl
]

pub front_accepted : (splits : Splits) (image : List ℕ → List ℕ) → Cuts image → OwnLeaves image → (old new : Seconds) (p1 p2 : ℕ) → p1 ≤ p2 → ((t : ℕ) → t ≤ p1 → calendar_leaf old t ≡ calendar_leaf new t)
    → front_checked image p1 p2 (calendar_root image old p1) (calendar_root image new p2) (calendar_front image new p1 p2) ≡ Ok tt
unfolding front_of
front_accepted splits image cut own old new p1 p2 within same =
    accepted_by image p1 p2 (calendar_root image old p1) (calendar_root image new p2) (calendar_front image new p1 p2) (front_counted image new p1 p2)
    (leads splits image cut own old new (calendar_root image old p1) (p2 + 1) (p1 + 1) 0 (p2 + 1) true (omega arith) (omega arith) (omega (arith, within)) (λ _. refl) (λ t from below. same t (omega (arith, below))))

-- ---- what an accepted front has

pub record IsAccepted (image : List ℕ → List ℕ) (p1 p2 : ℕ) (old new : List ℕ) (front : List (List ℕ)) : Type 0 where
  pub count : length front ≡ front_count p1 p2
  pub lead : front_roots image p1 p2 old front ≡ record { old = old; new = new }

bytes_cases : (a b : List ℕ) → ((bytes_eq a b ≡ true) × (a ≡ b)) ⊎ (bytes_eq a b ≡ false)
bytes_cases a b = by (bytes_eq a b) refl
  where
    by : (t : Bool) → bytes_eq a b ≡ t → ((bytes_eq a b ≡ true) × (a ≡ b)) ⊎ (bytes_eq a b ≡ false)
    by true e = inl (e, (bytes_eq-Decides a b).0 e)
    by false e = inr e

pub is_accepted : (image : List ℕ → List ℕ) (p1 p2 : ℕ) (old new : List ℕ) (front : List (List ℕ)) → front_checked image p1 p2 old new front ≡ Ok tt → IsAccepted image p1 p2 old new front
is_accepted image p1 p2 old new front ok = elim (eq_cases (length front) (front_count p1 p2)) [
  | inr other ↦ absurd (let e : Err (Length (front_count p1 p2) (length front)) ≡ Ok tt = rw other.0 at ok in cc)
  | inl same ↦ (let roots = front_roots image p1 p2 old front in
      let on : roots_checked roots old new ≡ Ok tt = rw same.0 at ok in
      elim (bytes_cases roots.old old) [
        | inr other ↦ absurd (let e : Err (OldDiffers roots.old old) ≡ Ok tt = rw other at on in cc)
        | inl first ↦ elim (bytes_cases roots.new new) [
          | inr other ↦ absurd (let e : Err (NewDiffers roots.new new) ≡ Ok tt = rw (first.0, other) at on in cc)
          | inl last ↦ record { count = same.1; lead = λ i. record { old = first.1 i; new = last.1 i } }
        ]
      ])
]
