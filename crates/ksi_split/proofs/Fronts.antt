-- Sides that are the front of other sides, and the leaves of the part that they lead to.
use Rattle.std.proofs.Common.{◌≡◌, ℕ, suc, ◌+◌, ◌-◌, ◌<◌, ◌≤◌, List, [], ◌∷◌, ◌++◌, take, drop, length, Result, Ok, Err, refl, sym, ap, ◌∙◌, subst, arith, inl, inr}
use Rattle.std.proofs.lemmas.List.{length-take-le, take-append-drop}
use Rattle.ksi_split.specs.declared.side.Side.{Side}
use Rattle.ksi_split.specs.declared.side.Side.TheVariants.{Left, Right}
use Rattle.ksi_split.specs.Powers.{split_of}
use Rattle.ksi_split.specs.Ways.{way_of}
use Rattle.ksi_split.specs.Ways.{IsWay, Begins, LeadsTo, PassesLeaf}
use Rattle.ksi_split.specs.Parts.{Part, half_of, part_at}
use Rattle.ksi_split.proofs.Powers.{eq_cases, below_power, split_is}
use Rattle.ksi_split.proofs.Ways.{part_of, part_next, part_ends, way_leads, way_one, way_left, way_right}
use Rattle.ksi_split.proofs.Converse.{IsFront, leads_to}
use Rattle.ksi_split.proofs.Leaves.{word_is, way_is}

abbrev pub found : Part → Result Part ℕ
found q = Ok q

abbrev pub passed : ℕ → Result Part ℕ
passed place = Err place

-- from the part that sides lead to, more sides go on
pub goes_on : (sides more : List Side) (place : ℕ) (part q : Part) → part_at place part sides ≡ found q → part_at place part (sides ++ more) ≡ part_at (place + length sides) q more
goes_on [] more place part q e =
    let is : part ≡ q = cc in
    let same : place ≡ place + length {A = Side} [] = omega arith in
    ap (λ (r : Part). part_at place r more) is ∙ ap (λ (i : ℕ). part_at i q more) same
goes_on (side ∷ sides) more place part q e = elim (eq_cases part.count 1) [
  | inl t ↦ absurd (over (rw t.0 at e))
  | inr f ↦ rw f.0 (let same : place + 1 + length sides ≡ place + length (side ∷ sides) = omega arith in
      goes_on sides more (place + 1) (half_of part side) q (rw f.0 at e) ∙ ap (λ (i : ℕ). part_at i q more) same)
]
  where
    over : passed place ≡ found q → ⊥
    over h = cc

-- sides that pass a leaf pass it whatever follows
pub stays_passed : (sides more : List Side) (place : ℕ) (part : Part) (at : ℕ) → part_at place part sides ≡ passed at → part_at place part (sides ++ more) ≡ passed at
stays_passed [] more place part at e = absurd cc
stays_passed (side ∷ sides) more place part at e = elim (eq_cases part.count 1) [
  | inl t ↦ rw t.0 (rw t.0 at e)
  | inr f ↦ rw f.0 (stays_passed sides more (place + 1) (half_of part side) at (rw f.0 at e))
]

-- a way leads to its leaf
pub way_to : (t n : ℕ) (sides : List Side) → IsWay t n sides → part_at 0 (part_of 0 n) sides ≡ found (part_of t 1)
way_to t n sides h =
    let w = word_is sides t n h in
    let same : 0 + t ≡ t = omega arith in
    ap (part_at 0 (part_of 0 n)) (sym w.word) ∙ way_leads n 0 0 t n w.within (omega (arith, below_power n)) ∙ ap (λ (i : ℕ). found (part_of i 1)) same

-- different leaves have different ways
pub one_leaf : (t u n : ℕ) (sides : List Side) → IsWay t n sides → IsWay u n sides → t ≡ u
one_leaf t u n sides a b = same (sym (way_to t n sides a) ∙ way_to u n sides b)
  where
    same : found (part_of t 1) ≡ found (part_of u 1) → t ≡ u
    same e = let is : part_of t 1 ≡ part_of u 1 = cc in ap (λ (q : Part). q.first) is

-- no way goes on as another
pub ends_there : (t u n : ℕ) (sides more : List Side) → IsWay t n sides → IsWay u n (sides ++ more) → more ≡ []
ends_there t u n sides [] a b = refl
ends_there t u n sides (side ∷ more) a b = absurd (apart (goes_on sides (side ∷ more) 0 (part_of 0 n) (part_of t 1) (way_to t n sides a)) (way_to u n (sides ++ side ∷ more) b))
  where
    apart : part_at 0 (part_of 0 n) (sides ++ side ∷ more) ≡ passed (0 + length sides) → part_at 0 (part_of 0 n) (sides ++ side ∷ more) ≡ found (part_of u 1) → ⊥
    apart e f = cc

-- the leaves of a part are those whose ways begin with the sides that lead to it
pub part_leaves : (n : ℕ) (sides : List Side) (q : Part) → 0 < n → part_at 0 (part_of 0 n) sides ≡ found q → LeadsTo n sides q.first q.count
part_leaves n sides q some e = record { some = front.some; leaves = λ t. (inside t, begins t) }
  where
    front : IsFront 0 n sides q
    front = leads_to sides 0 0 n q some e

    inside : (t : ℕ) → Begins t n sides → (q.first ≤ t) × (t < q.first + q.count)
    inside t b =
        let more = b.0 in
        let on : part_at (0 + length sides) (part_of q.first q.count) more ≡ found (part_of t 1) = sym (goes_on sides more 0 (part_of 0 n) q e) ∙ way_to t n (sides ++ more) b.1 in
        let below = leads_to more (0 + length sides) q.first q.count (part_of t 1) front.some on in
        (below.from, omega (arith, below.within))

    begins : (t : ℕ) → (q.first ≤ t) × (t < q.first + q.count) → Begins t n sides
    begins t h =
        let u = t - q.first in
        let lt : u < q.count = omega (arith, h.0, h.1) in
        let at : t ≡ q.first - 0 + u = omega (arith, h.0) in
        let inside : t < n = omega (arith, h.1, front.within) in
        (way_of u q.count, subst (IsWay t n) (ap (λ (i : ℕ). way_of i n) at ∙ front.way u lt) (way_is t n inside))

-- they are one part
pub one_part : (n : ℕ) (sides : List Side) (first count first' count' : ℕ) → LeadsTo n sides first count → LeadsTo n sides first' count' → (first ≡ first') × (count ≡ count')
one_part n sides first count first' count' a b =
    let low = there first count first' count' a b first (omega arith) (omega (arith, a.some)) in
    let low' = there first' count' first count b a first' (omega arith) (omega (arith, b.some)) in
    let high = there first count first' count' a b (first + count - 1) (omega (arith, a.some)) (omega (arith, a.some)) in
    let high' = there first' count' first count b a (first' + count' - 1) (omega (arith, b.some)) (omega (arith, b.some)) in
    (omega (arith, low.0, low'.0), omega (arith, low.0, low'.0, high.1, high'.1, a.some, b.some))
  where
    there : (first count first' count' : ℕ) → LeadsTo n sides first count → LeadsTo n sides first' count' → (t : ℕ) → first ≤ t → t < first + count → (first' ≤ t) × (t < first' + count')
    there first count first' count' a b t low high = (b.leaves t).0 ((a.leaves t).1 (low, high))

-- sides with which the ways to some leaves begin lead to these leaves' part
pub part_is : (n first count : ℕ) (sides : List Side) → LeadsTo n sides first count → part_at 0 (part_of 0 n) sides ≡ found (part_of first count)
part_is n first count sides h = of (part_at 0 (part_of 0 n) sides) refl
  where
    one : Begins first n sides
    one = (h.leaves first).1 (omega arith, omega (arith, h.some))

    some : 0 < n
    some = omega (arith, (word_is (sides ++ one.0) first n one.1).within)

    same : (q : Part) → (q.first ≡ first) × (q.count ≡ count) → found q ≡ found (part_of first count)
    same q e = λ i. Ok (part_of (e.0 i) (e.1 i))

    apart : (at : ℕ) → part_at 0 (part_of 0 n) (sides ++ one.0) ≡ passed at → part_at 0 (part_of 0 n) (sides ++ one.0) ≡ found (part_of first 1) → ⊥
    apart at e f = cc

    of : (r : Result Part ℕ) → part_at 0 (part_of 0 n) sides ≡ r → part_at 0 (part_of 0 n) sides ≡ found (part_of first count)
    of (Ok q) e = e ∙ same q (one_part n sides q.first q.count first count (part_leaves n sides q some e) h)
    of (Err at) e = absurd (apart at (stays_passed sides one.0 0 (part_of 0 n) at e) (way_to first n (sides ++ one.0) one.1))

-- ---- sides that pass a leaf

-- the sides before the place are the way to some leaf of n, and more follow; the first side has the place given
record IsPassed (place n : ℕ) (sides : List Side) (at : ℕ) : Type 0 where
  from : place ≤ at
  more : at < place + length sides
  leaf : ℕ
  within : leaf < n
  way : way_of leaf n ≡ take (at - place) sides

passed_here : (side : Side) (sides : List Side) (place n at : ℕ) → n ≡ 1 → place ≡ at → IsPassed place n (side ∷ sides) at
passed_here side sides place n at one here =
    let none : 0 ≡ at - place = omega arith in
    record {
      from = omega arith;
      more = omega arith;
      leaf = 0;
      within = omega arith;
      way = ap (way_of 0) one ∙ way_one 0 ∙ ap (λ (i : ℕ). take i (side ∷ sides)) none;
    }

passed_left : (sides : List Side) (place n at : ℕ) → 1 < n → IsPassed (place + 1) (split_of n) sides at → IsPassed place n (Left ∷ sides) at
passed_left sides place n at some r =
    let s = split_is n some in
    let one : at - place ≡ suc (at - (place + 1)) = omega (arith, r.from) in
    record {
      from = omega (arith, r.from);
      more = omega (arith, r.more);
      leaf = r.leaf;
      within = omega (arith, r.within, s.below);
      way = way_left r.leaf n some r.within ∙ ap (λ (w : List Side). Left ∷ w) r.way ∙ ap (λ (i : ℕ). take i (Left ∷ sides)) (sym one);
    }

passed_right : (sides : List Side) (place n at : ℕ) → 1 < n → IsPassed (place + 1) (n - split_of n) sides at → IsPassed place n (Right ∷ sides) at
passed_right sides place n at some r =
    let s = split_is n some in
    let one : at - place ≡ suc (at - (place + 1)) = omega (arith, r.from) in
    let less : r.leaf + split_of n - split_of n ≡ r.leaf = omega arith in
    record {
      from = omega (arith, r.from);
      more = omega (arith, r.more);
      leaf = r.leaf + split_of n;
      within = omega (arith, r.within, s.below);
      way = way_right (r.leaf + split_of n) n some (omega arith) ∙ ap (λ (i : ℕ). Right ∷ way_of i (n - split_of n)) less
          ∙ ap (λ (w : List Side). Right ∷ w) r.way ∙ ap (λ (i : ℕ). take i (Right ∷ sides)) (sym one);
    }

is_passed : (sides : List Side) (place first n at : ℕ) → 0 < n → part_at place (part_of first n) sides ≡ passed at → IsPassed place n sides at
is_passed [] place first n at some e = absurd cc
is_passed (Left ∷ sides) place first n at some e = elim (eq_cases n 1) [
  | inl t ↦ (let h = rw t.0 at e in passed_here Left sides place n at t.1 cc)
  | inr f ↦ (let more : 1 < n = omega (arith, f.1) in
      let s = split_is n more in
      passed_left sides place n at more (is_passed sides (place + 1) first (split_of n) at (omega (arith, s.greatest)) (sym (part_next place first n Left sides f.1) ∙ e)))
]
is_passed (Right ∷ sides) place first n at some e = elim (eq_cases n 1) [
  | inl t ↦ (let h = rw t.0 at e in passed_here Right sides place n at t.1 cc)
  | inr f ↦ (let more : 1 < n = omega (arith, f.1) in
      let s = split_is n more in
      passed_right sides place n at more (is_passed sides (place + 1) (first + split_of n) (n - split_of n) at (omega (arith, s.below)) (sym (part_next place first n Right sides f.1) ∙ e)))
]

pub passes : (p place : ℕ) (sides : List Side) → part_at 0 (part_of 0 (p + 1)) sides ≡ passed place → PassesLeaf p sides place
passes p place sides e =
    let r = is_passed sides 0 0 (p + 1) place (omega arith) e in
    let same : place - 0 ≡ place = omega arith in
    record {
      more = omega (arith, r.more);
      second = r.leaf;
      reached = record {
        within = omega (arith, r.within);
        way = subst (IsWay r.leaf (p + 1)) (r.way ∙ ap (λ (i : ℕ). take i sides) same) (way_is r.leaf (p + 1) r.within);
      };
    }

pub passed_at : (p place : ℕ) (sides : List Side) → PassesLeaf p sides place → part_at 0 (part_of 0 (p + 1)) sides ≡ passed place
passed_at p place sides h =
    let front = take place sides in
    let back = drop place sides in
    let t = h.second in
    let long : 0 + length (take place sides) ≡ place = omega (arith, length-take-le place sides (omega (arith, h.more))) in
    ap (part_at 0 (part_of 0 (p + 1))) (sym (take-append-drop place sides))
    ∙ goes_on (take place sides) (drop place sides) 0 (part_of 0 (p + 1)) (part_of t 1) (way_to t (p + 1) (take place sides) h.reached.way)
    ∙ ap (λ (i : ℕ). part_at i (part_of t 1) (drop place sides)) long ∙ part_ends place t sides h.more
