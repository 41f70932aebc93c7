-- The answer of a comparison, case by case.
use Rattle.std.proofs.Common.{◌≡◌, ◌≢◌, ℕ, zero, suc, ◌+◌, ◌-◌, ◌<◌, ◌≤◌, List, [], ◌∷◌, ◌++◌, length, reverse, Bool, true, false, Option, Some, None, Result, inl, inr, refl, sym, ap, subst, ◌∙◌, arith}
use Rattle.std.specs.Prelude.{IfOk, nat_lt, if◌then◌else◌}
use Rattle.std.specs.Str.{bytes_eq}
use Rattle.std.proofs.lemmas.Slice.Eq.{bytes_eq-Decides}
use Rattle.ksi_imprint.specs.declared.clash.Clash.{Clash}
use Rattle.ksi_split.specs.Powers.{split_of}
use Rattle.ksi_split.specs.Ways.{way_of}
use Rattle.ksi_split.specs.declared.side.Side.{Side}
use Rattle.ksi_split.specs.declared.side.Side.TheVariants.{Left, Right}
use Rattle.ksi_calendar.specs.Climbing.{calendar_join_text}
use Rattle.ksi_calendar.specs.Calendar.{Seconds, calendar_leaf, calendar_root, calendar_tree}
use Rattle.ksi_consistency.specs.Checked.{front_checked, roots_from}
use Rattle.ksi_consistency.specs.Compared.{halves_text}
use Rattle.ksi_consistency.specs.Answering.{answered, apart_among, below_clash, clash_to, compared, first_apart, front_clash, or_below, part_text}
use Rattle.ksi_consistency.specs.declared.halves.Halves.{Halves}
use Rattle.ksi_consistency.specs.declared.refusal.FrontRefusal.{FrontRefusal}
use Rattle.ksi_consistency.proofs.Cases.{lt_cases, eq_cases}
use Rattle.ksi_consistency.proofs.Leading.{empty, last_first}

-- ---- two strings side by side

differs : (one two : List ℕ) (b : Bool) → bytes_eq one two ≡ b → one ≢ two → bytes_eq one two ≡ false
differs one two true e other = absurd (other ((bytes_eq-Decides one two).0 e))
differs one two false e other = e

-- where they differ, they are found
pub apart : (one two : List ℕ) (below clash : Clash) → clash.one ≡ one → clash.two ≡ two → clash.one ≢ clash.two → clash ≡ or_below one two below
apart one two below clash first second other =
    rw (differs one two (bytes_eq one two) refl (λ same. other (first ∙ same ∙ sym second))) (λ i. record { one = first i; two = second i })

-- where they do not, what is found is below
pub passed : (one two : List ℕ) (below : Clash) → one ≡ two → or_below one two below ≡ below
passed one two below same = rw ((bytes_eq-Decides one two).1 same) refl

pub text_of : (image : List ℕ → List ℕ) (seconds : Seconds) (first count : ℕ) (halves : Halves) → halves.left ≡ calendar_tree image seconds first (split_of count)
    → halves.right ≡ calendar_tree image seconds (first + split_of count) (count - split_of count) → halves_text halves ≡ part_text image seconds first count
text_of image seconds first count halves left right =
    ap (λ (x : List ℕ). calendar_join_text x halves.right) left ∙ ap (λ (x : List ℕ). calendar_join_text (calendar_tree image seconds first (split_of count)) x) right

pub same_clash : {E : Type 0} (r : Result Clash E) (a b : Clash) → IfOk r (λ clash. clash ≡ a) → a ≡ b → IfOk r (λ clash. clash ≡ b)
same_clash r a b is same = subst (λ (x : Clash). IfOk r (λ clash. clash ≡ x)) same is

-- ---- down the way to a second

-- how ways begin
pub record Ways : Type 0 where
  pub left : (t n : ℕ) → 1 < n → t < split_of n → way_of t n ≡ Left ∷ way_of t (split_of n)
  pub right : (t n : ℕ) → 1 < n → split_of n ≤ t → way_of t n ≡ Right ∷ way_of (t - split_of n) (n - split_of n)

module _ (image : List ℕ → List ℕ) (old new : Seconds) where
  below_left : (first count : ℕ) (sides : List Side) → below_clash image old new first count (Left ∷ sides) ≡ or_below (part_text image old first count) (part_text image new first count) (below_clash image old new first (split_of count) sides)
  unfolding below_clash
  below_left first count sides = refl

  below_right : (first count : ℕ) (sides : List Side)
      → below_clash image old new first count (Right ∷ sides) ≡ or_below (part_text image old first count) (part_text image new first count) (below_clash image old new (first + split_of count) (count - split_of count) sides)
  unfolding below_clash
  below_right first count sides = refl

  module _ (ways : Ways) (second first n : ℕ) (some : 1 < n) where
    pub to_left : second - first < split_of n → clash_to image old new second first n ≡ or_below (part_text image old first n) (part_text image new first n) (clash_to image old new second first (split_of n))
    to_left before = ap (below_clash image old new first n) (ways.left (second - first) n some before) ∙ below_left first n (way_of (second - first) (split_of n))

    pub to_right : split_of n ≤ second - first → clash_to image old new second first n ≡ or_below (part_text image old first n) (part_text image new first n) (clash_to image old new second (first + split_of n) (n - split_of n))
    to_right behind =
        let k = split_of n in
        let same : second - first - k ≡ second - (first + k) = omega arith in
        ap (below_clash image old new first n) (ways.right (second - first) n some behind) ∙ below_right first n (way_of (second - first - k) (n - k))
        ∙ ap (λ (t : ℕ). or_below (part_text image old first n) (part_text image new first n) (below_clash image old new (first + k) (n - k) (way_of t (n - k)))) same

    -- the strings of the part stand at the top
    pub at_top : (rest : Clash) × (clash_to image old new second first n ≡ or_below (part_text image old first n) (part_text image new first n) rest)
    at_top = elim (lt_cases (second - first) (split_of n)) [
      | inl before ↦ (clash_to image old new second first (split_of n), to_left before.1)
      | inr behind ↦ (clash_to image old new second (first + split_of n) (n - split_of n), to_right behind.1)
    ]

-- ---- in a front

pub before_split : (t k : ℕ) (x y : Clash) → t < k → (if nat_lt t k then x else y) ≡ x
before_split t k x y below = elim (lt_cases t k) [ inl is ↦ rw is.0 refl | inr not ↦ absurd (omega (arith, not.1, below)) ]

pub behind_split : (t k : ℕ) (x y : Clash) → k ≤ t → (if nat_lt t k then x else y) ≡ y
behind_split t k x y above = elim (lt_cases t k) [ inl is ↦ absurd (omega (arith, is.1, above)) | inr not ↦ rw not.0 refl ]

module _ (image : List ℕ → List ℕ) (old new : Seconds) (given : List ℕ) (second first : ℕ) where
  pub front_none : (m n : ℕ) (front : List (List ℕ)) → length front ≡ 0 → front_clash image old new given second first m n (reverse front) ≡ clash_to image old new second first m
  unfolding front_clash
  front_none m n front none = ap (λ (xs : List (List ℕ)). front_clash image old new given second first m n (reverse xs)) (empty front none)

  all_first : (m n : ℕ) (x : List ℕ) (inner : List (List ℕ)) → m ≡ n → front_clash image old new given second first m n (x ∷ inner) ≡ clash_to image old new second first m
  unfolding front_clash
  all_first m n x inner all = elim (eq_cases m n) [ inl same ↦ rw same.0 refl | inr other ↦ absurd (other.1 all) ]

  left_first : (m n k : ℕ) (x : List ℕ) (inner : List (List ℕ)) → m ≢ n → k ≡ split_of n → m ≤ k
      → front_clash image old new given second first m n (x ∷ inner) ≡ or_below (calendar_join_text (roots_from image given m k inner).new x) (part_text image new first n) (front_clash image old new given second first m k inner)
  unfolding front_clash
  left_first m n k x inner part is most = elim (eq_cases m n) [
    | inl same ↦ absurd (part same.1)
    | inr other ↦ elim (lt_cases (split_of n) m) [ inl right ↦ absurd (omega (arith, right.1, most, is)) | inr left ↦ rw (other.0, left.0, is) refl ]
  ]

  -- what is found in the right part, or below the left one
  abbrev pub further : (k a b : ℕ) → List (List ℕ) → Clash
  further k a b inner = if nat_lt (second - first) k then clash_to image old new second first k else front_clash image old new given second (first + k) a b inner

  right_first : (m n k a b : ℕ) (x : List ℕ) (inner : List (List ℕ)) → m ≢ n → k ≡ split_of n → k < m → a ≡ m - k → b ≡ n - k
      → front_clash image old new given second first m n (x ∷ inner)
      ≡ or_below (calendar_join_text x (roots_from image given a b inner).old) (part_text image old first m) (or_below (calendar_join_text x (roots_from image given a b inner).new) (part_text image new first n) (further k a b inner))
  unfolding front_clash
  right_first m n k a b x inner part is above few left = elim (eq_cases m n) [
    | inl same ↦ absurd (part same.1)
    | inr other ↦ elim (lt_cases (split_of n) m) [ inl right ↦ rw (other.0, right.0, few, left, is) refl | inr below ↦ absurd (omega (arith, below.1, above, is)) ]
  ]

  module _ (m n : ℕ) (front inner : List (List ℕ)) (x : List ℕ) (is : front ≡ inner ++ x ∷ []) where
    last : front_clash image old new given second first m n (reverse front) ≡ front_clash image old new given second first m n (x ∷ reverse inner)
    last = ap (front_clash image old new given second first m n) (last_first front inner x is)

    pub front_all : m ≡ n → front_clash image old new given second first m n (reverse front) ≡ clash_to image old new second first m
    front_all all = last ∙ all_first m n x (reverse inner) all

    pub front_left : (k : ℕ) → m ≢ n → k ≡ split_of n → m ≤ k
        → front_clash image old new given second first m n (reverse front)
        ≡ or_below (calendar_join_text (roots_from image given m k (reverse inner)).new x) (part_text image new first n) (front_clash image old new given second first m k (reverse inner))
    front_left k part split most = last ∙ left_first m n k x (reverse inner) part split most

    pub front_right : (k a b : ℕ) → m ≢ n → k ≡ split_of n → k < m → a ≡ m - k → b ≡ n - k
        → front_clash image old new given second first m n (reverse front)
        ≡ or_below (calendar_join_text x (roots_from image given a b (reverse inner)).old) (part_text image old first m)
        (or_below (calendar_join_text x (roots_from image given a b (reverse inner)).new) (part_text image new first n) (further k a b (reverse inner)))
    front_right k a b part split above few left = last ∙ right_first m n k a b x (reverse inner) part split above few left

-- ---- the first second of different leaves

module _ (old new : Seconds) where
  apart_at : (t n second : ℕ) → t ≤ second → second < t + n → ((u : ℕ) → t ≤ u → u < second → calendar_leaf old u ≡ calendar_leaf new u) → calendar_leaf old second ≢ calendar_leaf new second → apart_among old new t n ≡ Some second
  apart_at t zero second from to same other = absurd (omega (arith, from, to))
  apart_at t (suc n) second from to same other = elim (eq_cases t second) [
    | inl here ↦
        let apart : calendar_leaf old t ≢ calendar_leaf new t = subst (λ (t : ℕ). calendar_leaf old t ≢ calendar_leaf new t) (sym here.1) other in
        rw (differs (calendar_leaf old t) (calendar_leaf new t) (bytes_eq (calendar_leaf old t) (calendar_leaf new t)) refl apart) (ap Some here.1)
    | inr later ↦
        rw ((bytes_eq-Decides (calendar_leaf old t) (calendar_leaf new t)).1 (same t (omega arith) (omega (arith, later.1, from))))
        (apart_at (suc t) n second (omega (arith, later.1, from)) (omega (arith, to)) (λ u above below. same u (omega (arith, above)) below) other)
  ]

  apart_never : (t n : ℕ) → ((u : ℕ) → t ≤ u → u < t + n → calendar_leaf old u ≡ calendar_leaf new u) → apart_among old new t n ≡ None
  apart_never t zero same = refl
  apart_never t (suc n) same =
      rw ((bytes_eq-Decides (calendar_leaf old t) (calendar_leaf new t)).1 (same t (omega arith) (omega arith)))
      (apart_never (suc t) n (λ u above below. same u (omega (arith, above)) (omega (arith, below))))

  pub first_is : (p second : ℕ) → second ≤ p → ((t : ℕ) → t < second → calendar_leaf old t ≡ calendar_leaf new t) → calendar_leaf old second ≢ calendar_leaf new second → Some second ≡ first_apart old new p
  unfolding first_apart
  first_is p second to same other = sym (apart_at 0 (p + 1) second (omega arith) (omega (arith, to)) (λ u above below. same u below) other)

  pub none_is : (p : ℕ) → ((t : ℕ) → t ≤ p → calendar_leaf old t ≡ calendar_leaf new t) → None ≡ first_apart old new p
  unfolding first_apart
  none_is p same = sym (apart_never 0 (p + 1) (λ u above below. same u (omega (arith, below))))

-- ---- the answer

pub answer_is : (image : List ℕ → List ℕ) (old new : Seconds) (p1 p2 : ℕ) (front : List (List ℕ)) (checked : Result (Unit {0}) FrontRefusal) (first : Option ℕ)
    → checked ≡ front_checked image p1 p2 (calendar_root image old p1) (calendar_root image new p2) front → first ≡ first_apart old new p1
    → answered image old new p1 p2 front checked first ≡ compared image old new p1 p2 front
unfolding compared
answer_is image old new p1 p2 front checked first is same =
    ap (λ (checked : Result (Unit {0}) FrontRefusal). answered image old new p1 p2 front checked first) is
    ∙ ap (λ (first : Option ℕ). answered image old new p1 p2 front (front_checked image p1 p2 (calendar_root image old p1) (calendar_root image new p2) front) first) same
