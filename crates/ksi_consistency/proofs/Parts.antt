-- Going down to a part of a tree.
use Rattle.std.proofs.Common.{◌≡◌, ◌≢◌, ℕ, zero, suc, ◌+◌, ◌-◌, ◌*◌, ◌^◌, ◌<◌, ◌≤◌, List, [], ◌∷◌, ◌++◌, Ok, Err, inl, inr, refl, sym, ap, subst, ◌∙◌, arith, take, length, set, Some, IsTrue}
use Rattle.std.specs.Int.{IsPowerOfTwo}
use Rattle.std.proofs.lemmas.List.{take_more_set}
use Rattle.std.proofs.Math.ListN.{length-set}
use Rattle.ksi_split.specs.Powers.{split_of}
use Rattle.ksi_split.specs.Parts.{Part, half_of, part_at}
use Rattle.ksi_split.specs.declared.side.Side.{Side}
use Rattle.ksi_split.specs.declared.side.Side.TheVariants.{Left, Right}
use Rattle.ksi_calendar.specs.Calendar.{Seconds, calendar_tree, is_covered, node_of}
use Rattle.ksi_consistency.specs.Parts.{IsPart}
use Rattle.ksi_consistency.proofs.Cases.{eq_cases, lt_cases, power_below, Splits, split_parts}

-- sides lead from a part to one in it
abbrev pub Leads : (part inner : Part) → Type 0
Leads part inner = (sides : List Side) × (part_at 0 part sides ≡ Ok inner)

-- the place of the first side does not matter
pub any_place : (i j : ℕ) (part inner : Part) (sides : List Side) → part_at i part sides ≡ Ok inner → part_at j part sides ≡ Ok inner
any_place i j part inner [] e = e
any_place i j part inner (side ∷ sides) e = elim (eq_cases part.count 1) [
  | inl one ↦ absurd (let f : Err i ≡ Ok inner = sym (rw one.0 refl) ∙ e in cc)
  | inr more ↦ rw more.0 (any_place (i + 1) (j + 1) (half_of part side) inner sides (rw more.0 at e))
]

-- one side more
pub one_more : (i : ℕ) (part inner : Part) (sides : List Side) (side : Side) → part_at i part sides ≡ Ok inner → inner.count ≢ 1 → part_at i part (sides ++ side ∷ []) ≡ Ok (half_of inner side)
one_more i part inner [] side e more =
    let same : part ≡ inner = cc in
    elim (eq_cases part.count 1) [
      | inl one ↦ absurd (more (sym (ap (λ (p : Part). p.count) same) ∙ one.1))
      | inr m ↦ rw m.0 (ap (λ (p : Part). Ok (half_of p side)) same)
    ]
one_more i part inner (first ∷ sides) side e more = elim (eq_cases part.count 1) [
  | inl one ↦ absurd (let f : Err i ≡ Ok inner = sym (rw one.0 refl) ∙ e in cc)
  | inr m ↦ rw m.0 (one_more (i + 1) (half_of part first) inner sides side (rw m.0 at e) more)
]

-- where a part lies in another
pub record LiesIn (part inner : Part) : Type 0 where
  pub some : 0 < inner.count
  pub from : part.first ≤ inner.first
  pub to : inner.first + inner.count ≤ part.first + part.count

-- what a first side leads on to
pub record LeadsOn (part inner : Part) : Type 0 where
  pub more : part.count ≢ 1
  pub side : Side
  pub on : Leads (half_of part side) inner
  pub lies : LiesIn (half_of part side) inner
  pub less : inner.count < part.count

module _ (splits : Splits) where
  half_lies : (part : Part) (side : Side) → 0 < part.count → part.count ≢ 1 → LiesIn part (half_of part side)
  half_lies part Left some more = let h = split_parts splits part.count (omega arith) in record { some = h.some; from = omega arith; to = omega (arith, h.below) }
  half_lies part Right some more = let h = split_parts splits part.count (omega arith) in record { some = omega (arith, h.below); from = omega arith; to = omega (arith, h.below) }

  half_less : (part : Part) (side : Side) → 0 < part.count → part.count ≢ 1 → (half_of part side).count < part.count
  half_less part Left some more = (split_parts splits part.count (omega arith)).below
  half_less part Right some more = let h = split_parts splits part.count (omega arith) in omega (arith, h.some, h.below)

  pub lies : (i : ℕ) (part inner : Part) (sides : List Side) → 0 < part.count → part_at i part sides ≡ Ok inner → LiesIn part inner
  lies i part inner [] some e =
      let same : part ≡ inner = cc in
      subst (LiesIn part) same (record { some = some; from = omega arith; to = omega arith })
  lies i part inner (side ∷ sides) some e = elim (eq_cases part.count 1) [
    | inl one ↦ absurd (let f : Err i ≡ Ok inner = sym (rw one.0 refl) ∙ e in cc)
    | inr m ↦ (let h = half_lies part side some m.1 in
        let l = lies (i + 1) (half_of part side) inner sides h.some (rw m.0 at e) in
        record { some = l.some; from = omega (arith, h.from, l.from); to = omega (arith, h.to, l.to) })
  ]

  leads_on : (part inner : Part) (sides : List Side) (side : Side) → 0 < part.count → part_at 0 part (side ∷ sides) ≡ Ok inner → LeadsOn part inner
  leads_on part inner sides side some e = elim (eq_cases part.count 1) [
    | inl one ↦ absurd (let f : Err 0 ≡ Ok inner = sym (rw one.0 refl) ∙ e in cc)
    | inr m ↦ (let on : part_at 1 (half_of part side) sides ≡ Ok inner = rw m.0 at e in
        let h = half_lies part side some m.1 in
        let l = lies 1 (half_of part side) inner sides h.some on in
        let less = half_less part side some m.1 in
        record { more = m.1; side = side; on = (sides, any_place 1 0 (half_of part side) inner sides on); lies = l; less = omega (arith, less, l.from, l.to) })
  ]

  -- a smaller part is led to by a first side
  pub goes_on : (part inner : Part) → 0 < part.count → Leads part inner → inner.count ≢ part.count → LeadsOn part inner
  goes_on part inner some (sides, e) other = by sides e
    where
      by : (sides : List Side) → part_at 0 part sides ≡ Ok inner → LeadsOn part inner
      by [] e = absurd (other (let same : part ≡ inner = cc in ap (λ (p : Part). p.count) (sym same)))
      by (side ∷ sides) e = leads_on part inner sides side some e

  -- one of as many leaves is the part itself
  pub ends : (part inner : Part) → 0 < part.count → Leads part inner → part.count ≤ inner.count → part ≡ inner
  ends part inner some (sides, e) most = by sides e
    where
      by : (sides : List Side) → part_at 0 part sides ≡ Ok inner → part ≡ inner
      by [] e = cc
      by (side ∷ sides) e = absurd (let l = leads_on part inner sides side some e in omega (arith, l.less, most))

-- where a part lies tells by which side it is led to
pub left_on : (part inner : Part) → LeadsOn part inner → inner.first < part.first + split_of part.count → Leads (half_of part Left) inner
left_on part inner l below = by l.side l.on l.lies
  where
    by : (side : Side) → Leads (half_of part side) inner → LiesIn (half_of part side) inner → Leads (half_of part Left) inner
    by Left on lies = on
    by Right on lies = absurd (let f = lies.from in omega (arith, f, below))

pub right_on : (part inner : Part) → LeadsOn part inner → part.first + split_of part.count ≤ inner.first → Leads (half_of part Right) inner
right_on part inner l above = by l.side l.on l.lies
  where
    by : (side : Side) → Leads (half_of part side) inner → LiesIn (half_of part side) inner → Leads (half_of part Right) inner
    by Right on lies = on
    by Left on lies = absurd (let t = lies.to in let s = lies.some in omega (arith, t, s, above))

-- ---- as a loop goes down

-- where a loop has come to
pub record Come (n : ℕ) (target : Part) (sides : List Side) (depth at rest : ℕ) : Type 0 where
  pub room : length sides ≡ 64
  pub deep : depth ≤ 64
  pub few : rest < 2 ^ (64 - depth)
  pub come : part_at 0 (record { first = 0; count = n }) (take depth sides) ≡ Ok (record { first = at; count = rest + 1 })
  pub ahead : Leads (record { first = at; count = rest + 1 }) target

-- the greatest power of two that is at most a number
pub record IsHigh (rest half : ℕ) : Type 0 where
  pub power : IsPowerOfTwo half
  pub most : half ≤ rest
  pub greatest : rest < 2 * half
  pub value : half ≡ split_of (rest + 1)

record Room (depth rest half : ℕ) : Type 0 where
  deep : depth < 64
  few : half ≤ 2 ^ (64 - (depth + 1))

room_on : (n : ℕ) (target : Part) (sides : List Side) (depth at rest half : ℕ) → Come n target sides depth at rest → 0 < rest → IsHigh rest half → Room depth rest half
room_on n target sides depth at rest half c some high = elim (lt_cases depth 64) [
  | inr all ↦ absurd (let d : 64 - depth ≡ 0 = omega (arith, all.1) in let f : rest < 2 ^ 0 = rw d at c.few in omega (arith, f, some))
  | inl lt ↦ (let d : 64 - depth ≡ suc (64 - (depth + 1)) = omega (arith, lt.1) in
      let f : rest < 2 ^ suc (64 - (depth + 1)) = rw d at c.few in
      let le = power_below half (64 - (depth + 1)) high.power (omega (arith, f, high.most)) in
      record { deep = lt.1; few = le })
]

module _ (splits : Splits) (n : ℕ) (target : Part) (sides : List Side) (depth at rest half : ℕ) (c : Come n target sides depth at rest) (more : target.count < rest + 1) (some : 0 < target.count) (high : IsHigh rest half) where
  pub before : at ≤ target.first
  before = (lies splits 0 (record { first = at; count = rest + 1 }) target c.ahead.0 (omega arith) c.ahead.1).from

  on : LeadsOn (record { first = at; count = rest + 1 }) target
  on = goes_on splits (record { first = at; count = rest + 1 }) target (omega arith) c.ahead (λ e. let less : target.count < rest + 1 = more in omega (arith, e, less))

  left_is : half_of (record { first = at; count = rest + 1 }) Left ≡ record { first = at; count = half - 1 + 1 }
  left_is = let h = split_parts splits (rest + 1) (omega (arith, some, more)) in let e : split_of (rest + 1) ≡ half - 1 + 1 = omega (arith, high.value, h.some) in λ i. record { first = at; count = e i }

  right_is : half_of (record { first = at; count = rest + 1 }) Right ≡ record { first = at + half; count = rest - half + 1 }
  right_is =
      let e : split_of (rest + 1) ≡ half = sym high.value in
      let f : at + split_of (rest + 1) ≡ at + half = ap (λ (x : ℕ). at + x) e in
      let g : rest + 1 - split_of (rest + 1) ≡ rest - half + 1 = omega (arith, high.value, high.most) in
      λ i. record { first = f i; count = g i }

  pub left_come : target.first < at + half → Come n target (set sides depth Left) (depth + 1) at (half - 1)
  left_come below =
      let room = room_on n target sides depth at rest half c (omega (arith, some, more)) high in
      let low : depth < length sides = omega (arith, c.room, room.deep) in
      record {
        room = length-set sides depth Left ∙ c.room;
        deep = omega (arith, room.deep);
        few = omega (arith, room.few, high.most, high.greatest, some, more);
        come = ap (part_at 0 (record { first = 0; count = n })) (take_more_set sides depth Left low) ∙ one_more 0 (record { first = 0; count = n }) (record { first = at; count = rest + 1 }) (take depth sides) Left c.come (λ e. omega (arith, e, some, more)) ∙ ap Ok left_is;
        ahead = subst (λ (p : Part). Leads p target) left_is (left_on (record { first = at; count = rest + 1 }) target on (omega (arith, below, high.value)));
      }

  pub right_come : at + half ≤ target.first → Come n target (set sides depth Right) (depth + 1) (at + half) (rest - half)
  right_come above =
      let room = room_on n target sides depth at rest half c (omega (arith, some, more)) high in
      let low : depth < length sides = omega (arith, c.room, room.deep) in
      record {
        room = length-set sides depth Right ∙ c.room;
        deep = omega (arith, room.deep);
        few = omega (arith, room.few, high.greatest);
        come = ap (part_at 0 (record { first = 0; count = n })) (take_more_set sides depth Right low) ∙ one_more 0 (record { first = 0; count = n }) (record { first = at; count = rest + 1 }) (take depth sides) Right c.come (λ e. omega (arith, e, some, more)) ∙ ap Ok right_is;
        ahead = subst (λ (p : Part). Leads p target) right_is (right_on (record { first = at; count = rest + 1 }) target on (omega (arith, above, high.value)));
      }

-- where a loop ends, it has come to the part
pub come_to : (splits : Splits) (n : ℕ) (target : Part) (sides : List Side) (depth at rest : ℕ) → Come n target sides depth at rest → rest + 1 ≤ target.count → part_at 0 (record { first = 0; count = n }) (take depth sides) ≡ Ok target
come_to splits n target sides depth at rest c all = c.come ∙ ap Ok (ends splits (record { first = at; count = rest + 1 }) target (omega arith) c.ahead all)

-- what stands at the sides of a part
pub found : (image : List ℕ → List ℕ) (seconds : Seconds) (p : ℕ) (part : Part) (sides : List Side) (imprint : List ℕ) → IsTrue (is_covered seconds p) → part_at 0 (record { first = 0; count = p + 1 }) sides ≡ Ok part
    → Some imprint ≡ node_of image seconds p sides → imprint ≡ calendar_tree image seconds part.first part.count
found image seconds p part sides imprint covered at is =
    let e : node_of image seconds p sides ≡ Some (calendar_tree image seconds part.first part.count) = rw (covered, at) refl in
    let f : Some imprint ≡ Some (calendar_tree image seconds part.first part.count) = is ∙ e in
    cc

-- ---- both parts of a part

pub left_part : (n first count k : ℕ) → IsPart n first count → count ≢ 1 → k ≡ split_of count → IsPart n first k
left_part n first count k (sides, at) more is =
    (sides ++ Left ∷ [], one_more 0 (record { first = 0; count = n }) (record { first = first; count = count }) sides Left at more ∙ ap (λ (x : ℕ). Ok (record { first = first; count = x })) (sym is))

pub right_part : (n first count from rest : ℕ) → IsPart n first count → count ≢ 1 → from ≡ first + split_of count → rest ≡ count - split_of count → IsPart n from rest
right_part n first count from rest (sides, at) more is left = (
  sides ++ Right ∷ [],
  one_more 0 (record { first = 0; count = n }) (record { first = first; count = count }) sides Right at more
      ∙ (let e : half_of (record { first = first; count = count }) Right ≡ record { first = from; count = rest } = λ i. record { first = sym is i; count = sym left i } in ap Ok e),
)

-- a part lies in its tree
pub inside : Splits → (n first count : ℕ) → 0 < n → IsPart n first count → first + count ≤ n
inside splits n first count some (sides, at) = let l = lies splits 0 (record { first = 0; count = n }) (record { first = first; count = count }) sides some at in omega (arith, l.to)

-- the whole tree is a part of itself
pub whole_part : (n : ℕ) → IsPart n 0 n
whole_part n = ([], refl)

-- each leaf is a part
leaf_leads : Splits → (most : ℕ) (part : Part) (t : ℕ) → part.count ≤ most → part.first ≤ t → t < part.first + part.count → Leads part (record { first = t; count = 1 })
leaf_leads splits zero part t le from to = absurd (omega (arith, le, from, to))
leaf_leads splits (suc most) part t le from to = elim (eq_cases part.count 1) [
  | inl one ↦ (let at : part.first ≡ t = omega (arith, one.1, from, to) in let e : part ≡ record { first = t; count = 1 } = λ i. record { first = at i; count = one.1 i } in ([], ap Ok e))
  | inr more ↦ (let h = split_parts splits part.count (omega (arith, more.1, from, to)) in
      elim (lt_cases t (part.first + split_of part.count)) [
        | inl left ↦ (let on = leaf_leads splits most (half_of part Left) t (omega (arith, h.below, le)) from left.1 in (Left ∷ on.0, rw more.0 (any_place 0 1 (half_of part Left) (record { first = t; count = 1 }) on.0 on.1)))
        | inr right ↦ (let on = leaf_leads splits most (half_of part Right) t (omega (arith, h.some, le)) right.1 (omega (arith, to, h.below)) in (Right ∷ on.0, rw more.0 (any_place 0 1 (half_of part Right) (record { first = t; count = 1 }) on.0 on.1)))
      ])
]

pub leaf_part : Splits → (n t : ℕ) → t < n → IsPart n t 1
leaf_part splits n t below = leaf_leads splits n (record { first = 0; count = n }) t (omega arith) (omega arith) (omega (arith, below))
