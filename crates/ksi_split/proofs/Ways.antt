-- Ways and the parts that they lead to.
use Rattle.std.proofs.Common.{◌≡◌, ◌≢◌, ℕ, zero, suc, ◌+◌, ◌-◌, ◌^◌, ◌<◌, ◌≤◌, List, [], ◌∷◌, drop, length, get_or, Ok, Err, Some, None, refl, sym, ap, ◌∙◌, arith, inl, inr}
use Rattle.std.proofs.Math.Nat.{pow-le-pow_right}
use Rattle.std.proofs.lemmas.List.{drop_more}
use Rattle.std.proofs.Math.ListN.{drop_of_length-le}
use Rattle.ksi_split.specs.declared.side.Side.{Side}
use Rattle.ksi_split.specs.declared.side.Side.TheVariants.{Left, Right}
use Rattle.ksi_split.specs.Trees.{tree, node_in}
use Rattle.ksi_split.specs.Ways.{way_within, way_of}
use Rattle.ksi_split.specs.Powers.{split_of}
use Rattle.ksi_split.specs.Parts.{Part, half_of, part_at, second_in}
use Rattle.ksi_split.proofs.Powers.{lt_cases, le_cases, eq_cases, below_power, doubled, split_at, split_is, split_exponent, exponents}

way_more : (k t n : ℕ) → n ≤ 2 ^ k → way_within (suc k) t n ≡ way_within k t n
unfolding way_within
way_more k t n h = elim (lt_cases (2 ^ k) n) [ inl l ↦ absurd (omega arith) | inr f ↦ rw f.0 refl ]

way_rises : (m k t n : ℕ) → k ≤ m → n ≤ 2 ^ k → way_within m t n ≡ way_within k t n
way_rises zero k t n le h = let e : zero ≡ k = omega arith in ap (λ (i : ℕ). way_within i t n) e
way_rises (suc m) k t n le h = elim (le_cases k m) [
  | inl at ↦ let up : 2 ^ k ≤ 2 ^ m = pow-le-pow_right {n = 2} (omega arith) at in way_more m t n (omega arith) ∙ way_rises m k t n at h
  | inr above ↦ let e : suc m ≡ k = omega arith in ap (λ (i : ℕ). way_within i t n) e
]

-- a way by any number of levels that is enough
pub way_at : (k t n : ℕ) → n ≤ 2 ^ k → way_of t n ≡ way_within k t n
unfolding way_of
way_at k t n h = elim (le_cases k n) [
  | inl le ↦ way_rises n k t n le h
  | inr lt ↦ sym (way_rises k n t n (omega arith) (omega (arith, below_power n)))
]

pub way_one : (t : ℕ) → way_of t 1 ≡ []
unfolding way_within
way_one t = way_at zero t 1 (omega arith)

left_at : (k t n : ℕ) → 2 ^ k < n → n ≤ 2 ^ suc k → t < 2 ^ k → way_of t n ≡ Left ∷ way_of t (2 ^ k)
unfolding way_within
left_at k t n low high lt = elim (lt_cases (2 ^ k) n) [
  | inl u ↦ elim (lt_cases t (2 ^ k)) [
    | inl v ↦ (let top : way_of t n ≡ Left ∷ way_within k t (2 ^ k) = way_at (suc k) t n high ∙ rw (u.0, v.0) refl in top ∙ ap (λ (w : List Side). Left ∷ w) (sym (way_at k t (2 ^ k) (omega arith))))
    | inr f ↦ absurd (omega arith)
  ]
  | inr f ↦ absurd (omega arith)
]

right_at : (k t n : ℕ) → 2 ^ k < n → n ≤ 2 ^ suc k → 2 ^ k ≤ t → way_of t n ≡ Right ∷ way_of (t - 2 ^ k) (n - 2 ^ k)
unfolding way_within
right_at k t n low high le = elim (lt_cases (2 ^ k) n) [
  | inl u ↦ elim (lt_cases t (2 ^ k)) [
    | inl v ↦ absurd (omega arith)
    | inr f ↦ (let top : way_of t n ≡ Right ∷ way_within k (t - 2 ^ k) (n - 2 ^ k) = way_at (suc k) t n high ∙ rw (u.0, f.0) refl in top ∙ ap (λ (w : List Side). Right ∷ w) (sym (way_at k (t - 2 ^ k) (n - 2 ^ k) (omega (arith, doubled k)))))
  ]
  | inr f ↦ absurd (omega arith)
]

pub way_left : (t n : ℕ) → 1 < n → t < split_of n → way_of t n ≡ Left ∷ way_of t (split_of n)
way_left t n some lt =
    let p = split_exponent n n some (omega (arith, below_power n)) in
    let e = split_at p.0 n p.1 p.2 in
    rw e (left_at p.0 t n p.1 p.2 (omega (arith, e)))

pub way_right : (t n : ℕ) → 1 < n → split_of n ≤ t → way_of t n ≡ Right ∷ way_of (t - split_of n) (n - split_of n)
way_right t n some le =
    let p = split_exponent n n some (omega (arith, below_power n)) in
    let e = split_at p.0 n p.1 p.2 in
    rw e (right_at p.0 t n p.1 p.2 (omega (arith, e)))

-- both parts take a level less
pub parts_fit : (k n : ℕ) → 1 < n → n ≤ 2 ^ k → (0 < k) × (split_of n ≤ 2 ^ (k - 1)) × (n - split_of n ≤ 2 ^ (k - 1))
parts_fit zero n some high = absurd (omega arith)
parts_fit (suc k) n some high =
    let p = split_exponent n n some (omega (arith, below_power n)) in
    let e = split_at p.0 n p.1 p.2 in
    let le : p.0 ≤ k = exponents p.0 k (omega (arith, p.1)) in
    let up : 2 ^ p.0 ≤ 2 ^ k = pow-le-pow_right {n = 2} (omega arith) le in
    let less : suc k - 1 ≡ k = omega arith in
    (omega arith, rw less (omega (arith, e)), rw less (omega (arith, e, p.2, doubled p.0)))

-- ---- the part that sides lead to

abbrev pub part_of : ℕ → ℕ → Part
part_of first count = record { first = first; count = count }

pub part_next : (place first count : ℕ) (side : Side) (sides : List Side) → count ≢ 1 → part_at place (part_of first count) (side ∷ sides) ≡ part_at (place + 1) (half_of (part_of first count) side) sides
part_next place first count side sides more = elim (eq_cases count 1) [ inl t ↦ absurd (more t.1) | inr f ↦ rw f.0 refl ]

pub part_over : (place first : ℕ) (side : Side) (sides : List Side) → part_at place (part_of first 1) (side ∷ sides) ≡ Err place
part_over place first side sides = refl

-- the way to a leaf leads to it
pub way_leads : (k place first t n : ℕ) → t < n → n ≤ 2 ^ k → part_at place (part_of first n) (way_of t n) ≡ Ok (part_of (first + t) 1)
way_leads zero place first t n lt high =
    let one : n ≡ 1 = omega arith in
    let none : t ≡ 0 = omega arith in
    rw (one, way_one t) (let e : first ≡ first + t = omega arith in ap (λ (i : ℕ). Ok (part_of i 1)) e)
way_leads (suc k) place first t n lt high = elim (lt_cases 1 n) [
  | inl some ↦ (let fit = parts_fit (suc k) n some.1 high in
      let less : suc k - 1 ≡ k = omega arith in
      let s = split_is n some.1 in
      let below : split_of n < n = s.below in
      elim (lt_cases t (split_of n)) [
        | inl v ↦ rw (way_left t n some.1 v.1) (part_next place first n Left (way_of t (split_of n)) (omega arith) ∙ way_leads k (place + 1) first t (split_of n) v.1 (rw (← less) fit.1))
        | inr f ↦ (let e : first + split_of n + (t - split_of n) ≡ first + t = omega arith in
            rw (way_right t n some.1 f.1) (part_next place first n Right (way_of (t - split_of n) (n - split_of n)) (omega arith)
            ∙ way_leads k (place + 1) (first + split_of n) (t - split_of n) (n - split_of n) (omega arith) (rw (← less) fit.2) ∙ ap (λ (i : ℕ). Ok (part_of i 1)) e))
      ])
  | inr one ↦ (let is : n ≡ 1 = omega arith in
      let none : t ≡ 0 = omega arith in
      rw (is, way_one t) (let e : first ≡ first + t = omega arith in ap (λ (i : ℕ). Ok (part_of i 1)) e))
]

-- ---- as a loop over the sides comes to it

pub some_left : (rest : ℕ) → rest ≢ 0 → 1 < rest + 1
some_left rest some = omega arith

pub part_ends : (place first : ℕ) (sides : List Side) → place < length sides → part_at place (part_of first 1) (drop place sides) ≡ Err place
part_ends place first sides lt = rw (drop_more sides place Left lt) (part_over place first (get_or sides place Left) (drop (place + 1) sides))

pub side_goes : (place first count first' count' : ℕ) (side : Side) (sides : List Side) → place < length sides → 1 < count → get_or sides place Left ≡ side
    → first' ≡ (half_of (part_of first count) side).first → count' ≡ (half_of (part_of first count) side).count
    → part_at (place + 1) (part_of first' count') (drop (place + 1) sides) ≡ part_at place (part_of first count) (drop place sides)
side_goes place first count first' count' side sides lt some is f n =
    let next = part_next place first count side (drop (place + 1) sides) (omega arith) in
    let here : drop place sides ≡ side ∷ drop (place + 1) sides = drop_more sides place Left lt ∙ ap (λ (s : Side). s ∷ drop (place + 1) sides) is in
    let there : part_of first' count' ≡ half_of (part_of first count) side = ap (λ (i : ℕ). part_of i count') f ∙ ap (part_of (half_of (part_of first count) side).first) n ∙ same side first count in
    ap (λ (p : Part). part_at (place + 1) p (drop (place + 1) sides)) there ∙ sym next ∙ ap (part_at place (part_of first count)) (sym here)
  where
    same : (side : Side) (first count : ℕ) → part_of (half_of (part_of first count) side).first (half_of (part_of first count) side).count ≡ half_of (part_of first count) side
    same Left first count = refl
    same Right first count = refl

pub side_taken : (place first count first' count' : ℕ) (side : Side) (sides : List Side) → place < length sides → 1 < count → get_or sides place Left ≡ side
    → first' ≡ (half_of (part_of first count) side).first → count' ≡ (half_of (part_of first count) side).count
    → second_in (part_at (place + 1) (part_of first' count') (drop (place + 1) sides)) ≡ second_in (part_at place (part_of first count) (drop place sides))
side_taken place first count first' count' side sides lt some is f n = ap second_in (side_goes place first count first' count' side sides lt some is f n)

pub none_in : {A : Type 0} (join : A → A → A) (leaf : ℕ → A) (place first count n : ℕ) (sides : List Side) → place < length sides → count ≡ 1 → part_at place (part_of first count) (drop place sides) ≡ part_at 0 (part_of 0 n) sides
    → None ≡ node_in join leaf (part_at 0 (part_of 0 n) sides)
none_in join leaf place first count n sides lt one is =
    ap (node_in join leaf) (sym (part_ends place first sides lt) ∙ ap (λ (m : ℕ). part_at place (part_of first m) (drop place sides)) (sym one) ∙ is)

pub some_in : {A : Type 0} (join : A → A → A) (leaf : ℕ → A) (place first count n : ℕ) (sides : List Side) (x : A) → place ≡ length sides → x ≡ tree join leaf first count
    → part_at place (part_of first count) (drop place sides) ≡ part_at 0 (part_of 0 n) sides → Some x ≡ node_in join leaf (part_at 0 (part_of 0 n) sides)
some_in join leaf place first count n sides x end value is =
    let none : drop place sides ≡ [] = drop_of_length-le sides {i = place} (omega arith) in
    ap (λ (y : _). Some y) value ∙ ap (node_in join leaf) (ap (part_at place (part_of first count)) (sym none) ∙ is)
