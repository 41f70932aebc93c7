-- Lists of cores and of what was sent to them.
use Rattle.std.proofs.Common.{◌≡◌, ◌≢◌, ℕ, zero, suc, ◌+◌, ◌*◌, ◌<◌, ◌≤◌, Bool, true, false, ◌||◌, cond, eqb, List, [], ◌∷◌, ◌++◌, length, map, set, refl, sym, ap, subst, ◌∙◌, length-append, arith, inl, inr, Some}
use Rattle.std.specs.Prelude.{slice_get, slice_set}
use Rattle.std.specs.List.{count_by, AllByRecursion}
use Rattle.std.proofs.lemmas.Bool.{cases_eq, cases_lt, le-ltb, lt-ltb, ltb-true, cond-true, cond-false, eq-eqb, ne_eqb, eqb-true, or_left, or_right}
use Rattle.std.proofs.lemmas.List.{get_or-set_other, get_or-replicate, get_or_past, length-replicate, length-map}
use Rattle.std.proofs.lemmas.Grind.{get_or-set_at}
use Rattle.std.proofs.lemmas.List.Sums.{sum_by-cons}
use Rattle.ksi_synod.specs.Voters.{cores_below, is_voter, is_flagged, no_flags, is_majority}
use Rattle.ksi_laws_progress.specs.Majorities.{AreDistinct, IsMajority}
use Rattle.ksi_laws_progress.specs.Numbers.{numbers_from, place_in, numbers_to, ballot_numbers}

-- MEMBERS

pub here : (x : ℕ) (xs : List ℕ) → is_voter (x ∷ xs) x ≡ true
here x xs = or_left (eqb x x) _ (eq-eqb x x refl)

pub there : (x k : ℕ) (xs : List ℕ) → is_voter xs k ≡ true → is_voter (x ∷ xs) k ≡ true
there x k xs is = or_right (eqb x k) _ is

pub not_here : (x k : ℕ) (xs : List ℕ) → k ≢ x → is_voter (x ∷ xs) k ≡ is_voter xs k
not_here x k xs other = ap (λ b. b || is_voter xs k) (ne_eqb x k (λ same. other (sym same)))

-- a member of those behind it is another one
pub other_than : (x k : ℕ) (xs : List ℕ) → is_voter xs x ≡ false → is_voter xs k ≡ true → k ≢ x
other_than x k xs none is same = absurd (cc (sym none ∙ ap (is_voter xs) (sym same) ∙ is))

-- the cores below a number
before_or_at : (xs : List ℕ) (x k : ℕ) → is_voter (xs ++ x ∷ []) k ≡ (is_voter xs k || eqb x k)
before_or_at [] x k = or_false (eqb x k)
  where
    or_false : (b : Bool) → (b || false) ≡ b
    or_false true = refl
    or_false false = refl
before_or_at (y ∷ xs) x k = ap (λ b. eqb y k || b) (before_or_at xs x k) ∙ or_assoc (eqb y k) (is_voter xs k) (eqb x k)
  where
    or_assoc : (a b c : Bool) → (a || (b || c)) ≡ ((a || b) || c)
    or_assoc true b c = refl
    or_assoc false b c = refl

pub is_below : (n k : ℕ) → k < n → is_voter (cores_below n) k ≡ true
is_below zero k lt = absurd (omega arith)
is_below (suc n) k lt = before_or_at (cores_below n) n k ∙ elim (cases_eq n k) [
  | inl same ↦ or_right (is_voter (cores_below n) k) (eqb n k) (eq-eqb n k same)
  | inr other ↦ or_left (is_voter (cores_below n) k) (eqb n k) (is_below n k (omega arith))
]

not_above : (n k : ℕ) → n ≤ k → is_voter (cores_below n) k ≡ false
not_above zero k le = refl
not_above (suc n) k le = before_or_at (cores_below n) n k ∙ ap (λ b. b || eqb n k) (not_above n k (omega arith)) ∙ ne_eqb n k (λ same. omega arith)

distinct_more : (xs : List ℕ) (x : ℕ) → AreDistinct xs → is_voter xs x ≡ false → AreDistinct (xs ++ x ∷ [])
distinct_more [] x distinct new = (refl, tt)
distinct_more (y ∷ xs) x distinct new =
    let other : x ≢ y = λ same. absurd (cc (sym new ∙ ap (is_voter (y ∷ xs)) same ∙ here y xs)) in (
      before_or_at xs x y ∙ ap (λ b. b || eqb x y) distinct.0 ∙ ne_eqb x y other,
      distinct_more xs x distinct.1 (sym (not_here y x xs other) ∙ new),
    )

pub below_distinct : (n : ℕ) → AreDistinct (cores_below n)
below_distinct zero = tt
below_distinct (suc n) = distinct_more (cores_below n) n (below_distinct n) (not_above n n (omega arith))

-- LISTS

pub get_append : {A : Type 0} (xs ys : List A) (k : ℕ) (x : A) → slice_get xs k ≡ Some x → slice_get (xs ++ ys) k ≡ Some x
get_append [] ys k x is = absurd (cc is)
get_append (y ∷ xs) ys zero x is = is
get_append (y ∷ xs) ys (suc k) x is = get_append xs ys k x is

pub get_behind : {A : Type 0} (xs ys : List A) (first k : ℕ) → length xs ≡ first → slice_get (xs ++ ys) (first + k) ≡ slice_get ys k
get_behind [] ys first k is = let same : first + k ≡ k = omega arith in ap (slice_get ys) same
get_behind (x ∷ xs) ys zero k is = absurd (omega arith)
get_behind (x ∷ xs) ys (suc first) k is = let same : suc first + k ≡ suc (first + k) = omega arith in
    ap (slice_get (x ∷ xs ++ ys)) same ∙ get_behind xs ys first k (omega arith)

pub get_mapped : {A : Type 0} (f : ℕ → A) (xs : List ℕ) (k : ℕ) → is_voter xs k ≡ true → slice_get (map f xs) (place_in xs k) ≡ Some (f k)
get_mapped f [] k is = absurd (cc is)
get_mapped f (x ∷ xs) k is = elim (cases_eq x k) [
  | inl same ↦ ap (slice_get (map f (x ∷ xs))) (cond-true (eqb x k) 0 (suc (place_in xs k)) (eq-eqb x k same)) ∙ ap (λ y. Some (f y)) same
  | inr other ↦ ap (slice_get (map f (x ∷ xs))) (cond-false (eqb x k) 0 (suc (place_in xs k)) (ne_eqb x k other))
      ∙ get_mapped f xs k (sym (not_here x k xs (λ same. other (sym same))) ∙ is)
]

-- FLAGS

pub no_flag : (k : ℕ) → is_flagged no_flags k ≡ false
no_flag k = elim (cases_lt k 9) [
  | inl lt ↦ get_or-replicate 9 k false false lt
  | inr ge ↦ get_or_past no_flags k false (omega (arith, length-replicate 9 false))
]

pub set_flag : (flags : List Bool) (done : List ℕ) (from : ℕ) → from < length flags → ((k : ℕ) → is_flagged flags k ≡ is_voter done k) →
    (k : ℕ) → is_flagged (slice_set flags from true) k ≡ is_voter (from ∷ done) k
set_flag flags done from small so k = elim (cases_eq k from) [
  | inl same ↦ get_or-set_at flags from k true false same small ∙ sym (or_left (eqb from k) _ (eq-eqb from k (sym same)))
  | inr other ↦ get_or-set_other flags from k true false other ∙ so k ∙ sym (not_here from k done other)
]

-- either is so
pub or_moves : (a e b : Bool) → (a || (e || b)) ≡ true → ((e || a) || b) ≡ true
or_moves true true b is = refl
or_moves true false b is = refl
or_moves false true b is = refl
or_moves false false b is = is

pub or_none : (a : Bool) → (a || false) ≡ true → a ≡ true
or_none true is = refl
or_none false is = is

-- COUNTS

count_step : (a b : Bool) (m n m' n' : ℕ) → m' ≡ cond a 1 0 + m → n' ≡ cond b 1 0 + n → (a ≡ true → b ≡ true) → m ≤ n → m' ≤ n'
count_step true true m n m' n' p q h le = omega arith
count_step true false m n m' n' p q h le = absurd (cc (h refl))
count_step false true m n m' n' p q h le = omega arith
count_step false false m n m' n' p q h le = omega arith

-- where more is so, as many or more are counted
pub count_more : (p q : ℕ → Bool) (xs : List ℕ) → ((k : ℕ) → p k ≡ true → q k ≡ true) → count_by p xs ≤ count_by q xs
count_more p q [] more = omega arith
count_more p q (x ∷ xs) more = count_step (p x) (q x) (count_by p xs) (count_by q xs) (count_by p (x ∷ xs)) (count_by q (x ∷ xs))
    (sum_by-cons (λ x. cond (p x) 1 0) x xs) (sum_by-cons (λ x. cond (q x) 1 0) x xs) (more x) (count_more p q xs more)

none_step : (a : Bool) (m m' : ℕ) → m' ≡ cond a 1 0 + m → a ≡ false → m ≡ 0 → m' ≡ 0
none_step true m m' p none is = absurd (cc none)
none_step false m m' p none is = omega arith

count_none : (p : ℕ → Bool) (xs : List ℕ) → ((k : ℕ) → p k ≡ false) → count_by p xs ≡ 0
count_none p [] none = refl
count_none p (x ∷ xs) none = none_step (p x) (count_by p xs) (count_by p (x ∷ xs)) (sum_by-cons (λ x. cond (p x) 1 0) x xs) (none x) (count_none p xs none)

-- MAJORITIES

pub no_majority : (voters : List ℕ) → is_majority voters no_flags ≡ false
no_majority voters = le-ltb (length voters) (2 * count_by (is_flagged no_flags) voters) (omega (arith, count_none (is_flagged no_flags) voters no_flag))

-- some of the voters that are more than half of them
abbrev pub AreMost : (voters some : List ℕ) → Type 0
AreMost voters some = length voters < 2 * count_by (is_voter some) voters

more_step : (a b : Bool) (m n m' n' : ℕ) → m' ≡ cond a 1 0 + m → n' ≡ cond b 1 0 + n → m < n → (a ≡ true → b ≡ true) → m' < n'
more_step true true m n m' n' p q lt so = omega arith
more_step true false m n m' n' p q lt so = absurd (cc (so refl))
more_step false true m n m' n' p q lt so = omega arith
more_step false false m n m' n' p q lt so = omega arith

new_step : (a b : Bool) (m n m' n' : ℕ) → m' ≡ cond a 1 0 + m → n' ≡ cond b 1 0 + n → m ≤ n → a ≡ false → b ≡ true → m' < n'
new_step false true m n m' n' p q le none is = omega arith
new_step true b m n m' n' p q le none is = absurd (cc none)
new_step false false m n m' n' p q le none is = absurd (cc is)

-- where one is counted that was not, more are
count_new : (p q : ℕ → Bool) (xs : List ℕ) (x : ℕ) → ((k : ℕ) → p k ≡ true → q k ≡ true) → is_voter xs x ≡ true → p x ≡ false → q x ≡ true → count_by p xs < count_by q xs
count_new p q [] x more there none is = absurd (cc there)
count_new p q (y ∷ xs) x more there none is = elim (cases_eq x y) [
  | inl same ↦ new_step (p y) (q y) (count_by p xs) (count_by q xs) (count_by p (y ∷ xs)) (count_by q (y ∷ xs))
      (sum_by-cons (λ x. cond (p x) 1 0) y xs) (sum_by-cons (λ x. cond (q x) 1 0) y xs) (count_more p q xs more) (sym (ap p same) ∙ none) (sym (ap q same) ∙ is)
  | inr other ↦ more_step (p y) (q y) (count_by p xs) (count_by q xs) (count_by p (y ∷ xs)) (count_by q (y ∷ xs))
      (sum_by-cons (λ x. cond (p x) 1 0) y xs) (sum_by-cons (λ x. cond (q x) 1 0) y xs) (count_new p q xs x more (sym (not_here y x xs other) ∙ there) none is) (more y)
]

-- distinct voters are counted
count_distinct : (voters some : List ℕ) → AreDistinct some → ((k : ℕ) → is_voter some k ≡ true → is_voter voters k ≡ true) → length some ≤ count_by (is_voter some) voters
count_distinct voters [] distinct there = omega arith
count_distinct voters (x ∷ xs) distinct in_them =
    omega (
      arith,
      count_distinct voters xs distinct.1 (λ k is. in_them k (there x k xs is)),
      count_new (is_voter xs) (is_voter (x ∷ xs)) voters x (λ k is. there x k xs is) (in_them x (here x xs)) distinct.0 (here x xs),
    )

count_at_most : (p : ℕ → Bool) (xs : List ℕ) → count_by p xs ≤ length xs
count_at_most p [] = omega arith
count_at_most p (x ∷ xs) = one (p x) (count_by p xs) (count_by p (x ∷ xs)) (length xs) (sum_by-cons (λ x. cond (p x) 1 0) x xs) (count_at_most p xs)
  where
    one : (a : Bool) (m m' l : ℕ) → m' ≡ cond a 1 0 + m → m ≤ l → m' ≤ suc l
    one true m m' l is le = omega arith
    one false m m' l is le = omega arith

none_either : (a b : Bool) → (a || b) ≡ false → (a ≡ false) × (b ≡ false)
none_either false b is = (refl, is)
none_either true b is = absurd (cc is)

-- one that is not there is not counted
count_absent : (x : ℕ) (xs voters : List ℕ) → is_voter voters x ≡ false → count_by (is_voter (x ∷ xs)) voters ≤ count_by (is_voter xs) voters
count_absent x xs [] none = omega arith
count_absent x xs (v ∷ vs) none =
    let parts = none_either (eqb v x) (is_voter vs x) none in
    let other : v ≢ x = λ same. absurd (cc (sym parts.0 ∙ eq-eqb v x same)) in
    count_step (is_voter (x ∷ xs) v) (is_voter xs v) (count_by (is_voter (x ∷ xs)) vs) (count_by (is_voter xs) vs) (count_by (is_voter (x ∷ xs)) (v ∷ vs)) (count_by (is_voter xs) (v ∷ vs))
    (sum_by-cons (λ k. cond (is_voter (x ∷ xs) k) 1 0) v vs) (sum_by-cons (λ k. cond (is_voter xs k) 1 0) v vs)
    (λ is. sym (not_here x v xs other) ∙ is) (count_absent x xs vs parts.1)

-- one more is counted once
count_once : (x : ℕ) (xs voters : List ℕ) → AreDistinct voters → count_by (is_voter (x ∷ xs)) voters ≤ suc (count_by (is_voter xs) voters)
count_once x xs [] distinct = omega arith
count_once x xs (v ∷ vs) distinct = elim (cases_eq v x) [
  | inl same ↦
      first (is_voter (x ∷ xs) v) (is_voter xs v) (count_by (is_voter (x ∷ xs)) vs) (count_by (is_voter xs) vs) (count_by (is_voter (x ∷ xs)) (v ∷ vs)) (count_by (is_voter xs) (v ∷ vs))
      (sum_by-cons (λ k. cond (is_voter (x ∷ xs) k) 1 0) v vs) (sum_by-cons (λ k. cond (is_voter xs k) 1 0) v vs)
      (count_absent x xs vs (sym (ap (is_voter vs) same) ∙ distinct.0))
  | inr other ↦
      later (is_voter (x ∷ xs) v) (is_voter xs v) (count_by (is_voter (x ∷ xs)) vs) (count_by (is_voter xs) vs) (count_by (is_voter (x ∷ xs)) (v ∷ vs)) (count_by (is_voter xs) (v ∷ vs))
      (sum_by-cons (λ k. cond (is_voter (x ∷ xs) k) 1 0) v vs) (sum_by-cons (λ k. cond (is_voter xs k) 1 0) v vs)
      (not_here x v xs other) (count_once x xs vs distinct.1)
]
  where
    first : (a b : Bool) (m n m' n' : ℕ) → m' ≡ cond a 1 0 + m → n' ≡ cond b 1 0 + n → m ≤ n → m' ≤ suc n'
    first true true m n m' n' p q le = omega arith
    first true false m n m' n' p q le = omega arith
    first false true m n m' n' p q le = omega arith
    first false false m n m' n' p q le = omega arith

    later : (a b : Bool) (m n m' n' : ℕ) → m' ≡ cond a 1 0 + m → n' ≡ cond b 1 0 + n → a ≡ b → m ≤ suc n → m' ≤ suc n'
    later true true m n m' n' p q same le = omega arith
    later false false m n m' n' p q same le = omega arith
    later true false m n m' n' p q same le = absurd (cc same)
    later false true m n m' n' p q same le = omega arith

-- no more are counted than there are
pub count_few : (voters some : List ℕ) → AreDistinct voters → count_by (is_voter some) voters ≤ length some
count_few voters [] distinct = let none = count_none (is_voter []) voters (λ k. refl) in omega (arith, none)
count_few voters (x ∷ xs) distinct = omega (arith, count_once x xs voters distinct, count_few voters xs distinct)

-- a majority of as many as are no more than needed is all of them
pub all_done : (voters done rest : List ℕ) (all : ℕ) (flags : List Bool) → AreDistinct voters → is_majority voters flags ≡ true → ((k : ℕ) → is_flagged flags k ≡ is_voter done k) →
    length done + length rest ≡ all → 2 * all ≤ length voters + 2 → rest ≡ []
all_done voters done [] all flags distinct most so long least = refl
all_done voters done (x ∷ rest) all flags distinct most so long least =
    let more = ltb-true _ _ most in
    let counted = count_more (is_flagged flags) (is_voter done) voters (λ k is. sym (so k) ∙ is) in
    absurd (omega (arith, more, counted, count_few voters done distinct, long, least))

pub majority_few : (voters some : List ℕ) → IsMajority voters some → length some ≤ length voters
majority_few voters some is = omega (arith, count_distinct voters some is.distinct is.vote, count_at_most (is_voter some) voters)

pub most_are : (voters some : List ℕ) → AreDistinct some → ((k : ℕ) → is_voter some k ≡ true → is_voter voters k ≡ true) → length voters < 2 * length some → AreMost voters some
most_are voters some distinct in_them most = omega (arith, most, count_distinct voters some distinct in_them)

pub majority_most : (voters some : List ℕ) → IsMajority voters some → AreMost voters some
majority_most voters some is = most_are voters some is.distinct is.vote is.most

pub is_most : (voters some : List ℕ) (flags : List Bool) → AreMost voters some → ((k : ℕ) → is_voter some k ≡ true → is_flagged flags k ≡ true) → is_majority voters flags ≡ true
is_most voters some flags most set = lt-ltb _ _ (omega (arith, most, count_more (is_voter some) (is_flagged flags) voters set))

pub stays_majority : (voters : List ℕ) (old new : List Bool) → ((k : ℕ) → is_flagged old k ≡ true → is_flagged new k ≡ true) → is_majority voters old ≡ true → is_majority voters new ≡ true
stays_majority voters old new more is = lt-ltb _ _ (omega (arith, ltb-true _ _ is, count_more (is_flagged old) (is_flagged new) voters more))

-- THE GREATEST

pub greatest : (f : ℕ → ℕ) (x : ℕ) (xs : List ℕ) → (y : ℕ) × (is_voter (x ∷ xs) y ≡ true) × ((k : ℕ) → is_voter (x ∷ xs) k ≡ true → f k ≤ f y)
greatest f x [] = (x, here x [], λ k is. only k is)
  where
    only : (k : ℕ) → (eqb x k || false) ≡ true → f k ≤ f x
    only k is = let same : x ≡ k = eqb-true x k (or_none (eqb x k) is) in omega (arith, ap f same)
greatest f x (y ∷ ys) = by (greatest f y ys)
  where
    by : ((z : ℕ) × (is_voter (y ∷ ys) z ≡ true) × ((k : ℕ) → is_voter (y ∷ ys) k ≡ true → f k ≤ f z)) → (z : ℕ) × (is_voter (x ∷ y ∷ ys) z ≡ true) × ((k : ℕ) → is_voter (x ∷ y ∷ ys) k ≡ true → f k ≤ f z)
    by r = elim (cases_lt (f r.0) (f x)) [
      | inl lt ↦ (
        x,
        here x (y ∷ ys),
        λ k is. elim (cases_eq k x) [
          | inl same ↦ omega (arith, ap f same)
          | inr other ↦ omega (arith, r.2 k (sym (not_here x k (y ∷ ys) other) ∙ is), lt)
        ],
      )
      | inr le ↦ (
        r.0,
        there x r.0 (y ∷ ys) r.1,
        λ k is. elim (cases_eq k x) [
          | inl same ↦ omega (arith, ap f same, le)
          | inr other ↦ r.2 k (sym (not_here x k (y ∷ ys) other) ∙ is)
        ],
      )
    ]

-- HOW MANY

pub many_from : (first n : ℕ) → length (numbers_from first n) ≡ n
many_from first zero = refl
many_from first (suc n) = ap suc (many_from (suc first) n)

pub many_below : (n : ℕ) → length (cores_below n) ≡ n
many_below zero = refl
many_below (suc n) = length-append (cores_below n) (n ∷ []) ∙ omega (arith, many_below n)

pub many_numbers : (first : ℕ) (voters some : List ℕ) (cores : ℕ) → length (ballot_numbers first voters some cores) ≡ 4 * length some + cores
many_numbers first voters some cores =
    let n = length voters in
    let m = length some in
    let a = numbers_to first voters some in
    let b = numbers_from (first + n) m in
    let c = numbers_to (first + n + m) voters some in
    let d = numbers_from (first + n + m + n) m in
    let e = numbers_to (first + n + m + n + m) (cores_below cores) (cores_below cores) in
    let to_a : length a ≡ m = length-map some _ in
    let to_b : length b ≡ m = many_from (first + n) m in
    let to_c : length c ≡ m = length-map some _ in
    let to_d : length d ≡ m = many_from (first + n + m + n) m in
    let to_e : length e ≡ cores = length-map (cores_below cores) _ ∙ many_below cores in
    let de = length-append d e in
    let cde = length-append c (d ++ e) in
    let bcde = length-append b (c ++ (d ++ e)) in
    length-append a (b ++ (c ++ (d ++ e))) ∙ omega (arith, to_a, to_b, to_c, to_d, to_e, de, cde, bcde)

-- what holds of all holds of each
pub all_at : (P : ℕ → Type 0) (xs : List ℕ) → AllByRecursion P xs → (k : ℕ) → is_voter xs k ≡ true → P k
all_at P [] all k is = absurd (cc is)
all_at P (x ∷ xs) all k is = elim (cases_eq k x) [
  | inl same ↦ subst P (sym same) all.0
  | inr other ↦ all_at P xs all.1 k (sym (not_here x k xs other) ∙ is)
]

-- IN ORDER

map_same : {A : Type 0} (f g : ℕ → A) (xs : List ℕ) → ((k : ℕ) → is_voter xs k ≡ true → f k ≡ g k) → map f xs ≡ map g xs
map_same f g [] same = refl
map_same f g (x ∷ xs) same = ap (λ y. y ∷ map f xs) (same x (here x xs)) ∙ ap (λ ys. g x ∷ ys) (map_same f g xs (λ k is. same k (there x k xs is)))

-- those to all of them are all numbers from the first on
all_places : (first : ℕ) (xs : List ℕ) → AreDistinct xs → numbers_to first xs xs ≡ numbers_from first (length xs)
all_places first [] distinct = refl
all_places first (x ∷ xs) distinct =
    let now : first + place_in (x ∷ xs) x ≡ first = ap (λ p. first + p) (cond-true (eqb x x) 0 (suc (place_in xs x)) (eq-eqb x x refl)) ∙ omega arith in
    ap (λ y. y ∷ map (λ core. first + place_in (x ∷ xs) core) xs) now
    ∙ ap (λ ys. first ∷ ys) (map_same (λ core. first + place_in (x ∷ xs) core) (λ core. suc first + place_in xs core) xs
    (λ k is. ap (λ p. first + p) (cond-false (eqb x k) 0 (suc (place_in xs k)) (ne_eqb x k (λ same. other_than x k xs distinct.0 is (sym same)))) ∙ omega arith))
    ∙ ap (λ ys. first ∷ ys) (all_places (suc first) xs distinct.1)

from_both : (first a b : ℕ) → numbers_from first a ++ numbers_from (first + a) b ≡ numbers_from first (a + b)
from_both first zero b = let same : first + 0 ≡ first = omega arith in let sum : b ≡ 0 + b = omega arith in ap (λ f. numbers_from f b) same ∙ ap (numbers_from first) sum
from_both first (suc a) b =
    let same : first + suc a ≡ suc first + a = omega arith in
    let sum : suc (a + b) ≡ suc a + b = omega arith in
    ap (λ f. first ∷ (numbers_from (suc first) a ++ numbers_from f b)) same ∙ ap (λ ys. first ∷ ys) (from_both (suc first) a b) ∙ ap (numbers_from first) sum

pub in_order : (first : ℕ) (voters : List ℕ) (cores : ℕ) → AreDistinct voters → ballot_numbers first voters voters cores ≡ numbers_from first (4 * length voters + cores)
in_order first voters cores distinct =
    let n = length voters in
    let last : numbers_to (first + n + n + n + n) (cores_below cores) (cores_below cores) ≡ numbers_from (first + n + n + n + n) cores =
    all_places (first + n + n + n + n) (cores_below cores) (below_distinct cores) ∙ ap (numbers_from (first + n + n + n + n)) (many_below cores) in
    let one = ap (λ ys. ys ++ (numbers_from (first + n) n ++ (numbers_to (first + n + n) voters voters ++ (numbers_from (first + n + n + n) n ++ numbers_to (first + n + n + n + n) (cores_below cores) (cores_below cores))))) (all_places first voters distinct) in
    let two = ap (λ ys. numbers_from first n ++ (numbers_from (first + n) n ++ (ys ++ (numbers_from (first + n + n + n) n ++ numbers_to (first + n + n + n + n) (cores_below cores) (cores_below cores))))) (all_places (first + n + n) voters distinct) in
    let three = ap (λ ys. numbers_from first n ++ (numbers_from (first + n) n ++ (numbers_from (first + n + n) n ++ (numbers_from (first + n + n + n) n ++ ys)))) last in
    let four = ap (λ ys. numbers_from first n ++ (numbers_from (first + n) n ++ (numbers_from (first + n + n) n ++ ys))) (from_both (first + n + n + n) n cores) in
    let five = ap (λ ys. numbers_from first n ++ (numbers_from (first + n) n ++ ys)) (from_both (first + n + n) n (n + cores)) in
    let six = ap (λ ys. numbers_from first n ++ ys) (from_both (first + n) n (n + (n + cores))) in
    let sum : n + (n + (n + (n + cores))) ≡ 4 * n + cores = omega arith in
    one ∙ two ∙ three ∙ four ∙ five ∙ six ∙ from_both first n (n + (n + (n + cores))) ∙ ap (numbers_from first) sum
