-- The second that sides name, or why they name none, by their ways.
use Rattle.std.proofs.Common.{◌≡◌, ◌≢◌, ℕ, ◌+◌, ◌-◌, ◌<◌, ◌⊎◌, ◌↔◌, List, [], ◌∷◌, ◌++◌, Result, Ok, Err, refl, sym, ap, ◌∙◌, subst, arith, inl, inr, append-nil}
use Rattle.ksi_split.specs.declared.side.Side.{Side}
use Rattle.ksi_split.specs.declared.fault.ShapeFault.{ShapeFault}
use Rattle.ksi_split.specs.declared.fault.ShapeFault.TheVariants.{TooMany, TooFew}
use Rattle.ksi_split.specs.Ways.{IsWay, Begins, LeadsTo, NamesSecond, PassesLeaf, EndsAbove}
use Rattle.ksi_split.specs.Parts.{Part, part_at, second_in, second_at}
use Rattle.ksi_split.proofs.Powers.{eq_cases}
use Rattle.ksi_split.proofs.Ways.{part_of}
use Rattle.ksi_split.proofs.Second.{second_names, second_is}
use Rattle.ksi_split.proofs.Leaves.{word_is, way_is}
use Rattle.ksi_split.proofs.Fronts.{found, passed, passes, passed_at, part_leaves, part_is, ends_there, stays_passed, way_to}

abbrev pub named : ℕ → Result ℕ ShapeFault
named t = Ok t

abbrev pub too_many : ℕ → Result ℕ ShapeFault
too_many place = Err (TooMany place)

abbrev pub too_few : ℕ → Result ℕ ShapeFault
too_few rest = Err (TooFew rest)

pub is_second : (p t : ℕ) (sides : List Side) → second_at p sides ≡ named t → NamesSecond p sides t
is_second p t sides e =
    let h = second_is p t sides e in
    record { within = h.within; way = subst (IsWay t (p + 1)) h.way (way_is t (p + 1) (omega (arith, h.within))) }

pub second_found : (p t : ℕ) (sides : List Side) → NamesSecond p sides t → second_at p sides ≡ named t
second_found p t sides h = ap (second_at p) (sym (word_is sides t (p + 1) h.way).word) ∙ second_names p t h.within

-- what a part that is reached says
pub whole : (q : Part) → q.count ≡ 1 → second_in (Ok q) ≡ named q.first
whole q one = elim (eq_cases q.count 1) [ inl t ↦ rw t.0 refl | inr f ↦ absurd (f.1 one) ]

pub open_part : (q : Part) → q.count ≢ 1 → second_in (Ok q) ≡ too_few (q.count - 1)
open_part q more = elim (eq_cases q.count 1) [ inl t ↦ absurd (more t.1) | inr f ↦ rw f.0 refl ]

pub is_passing : (p place : ℕ) (sides : List Side) → second_at p sides ≡ too_many place → PassesLeaf p sides place
unfolding second_at
is_passing p place sides e = of (part_at 0 (part_of 0 (p + 1)) sides) refl e
  where
    of : (r : Result Part ℕ) → part_at 0 (part_of 0 (p + 1)) sides ≡ r → second_in r ≡ too_many place → PassesLeaf p sides place
    of (Ok q) is e = elim (eq_cases q.count 1) [
      | inl t ↦ (let one = whole q t.1 in absurd cc)
      | inr f ↦ (let few = open_part q f.1 in absurd cc)
    ]
    of (Err at) is e = let same : at ≡ place = cc in passes p place sides (is ∙ ap (λ (i : ℕ). Err i) same)

pub passing_found : (p place : ℕ) (sides : List Side) → PassesLeaf p sides place → second_at p sides ≡ too_many place
unfolding second_at
passing_found p place sides h = ap second_in (passed_at p place sides h)

pub is_above : (p rest : ℕ) (sides : List Side) → second_at p sides ≡ too_few rest → EndsAbove p sides rest
unfolding second_at
is_above p rest sides e = of (part_at 0 (part_of 0 (p + 1)) sides) refl e
  where
    at_part : (q : Part) → q.count ≢ 1 → q.count - 1 ≡ rest → LeadsTo (p + 1) sides q.first q.count → EndsAbove p sides rest
    at_part q more is part =
        let some : 0 < q.count = part.some in
        let same : q.count ≡ rest + 1 = omega (arith, more) in
        record { more = omega (arith, more); first = q.first; part = subst (LeadsTo (p + 1) sides q.first) same part }

    of : (r : Result Part ℕ) → part_at 0 (part_of 0 (p + 1)) sides ≡ r → second_in r ≡ too_few rest → EndsAbove p sides rest
    of (Ok q) is e = elim (eq_cases q.count 1) [
      | inl t ↦ (let one = whole q t.1 in absurd cc)
      | inr f ↦ (let few = open_part q f.1 in at_part q f.1 (cc) (part_leaves (p + 1) sides q (omega arith) is))
    ]
    of (Err at) is e = absurd cc

pub above_found : (p rest : ℕ) (sides : List Side) → EndsAbove p sides rest → second_at p sides ≡ too_few rest
unfolding second_at
above_found p rest sides h =
    let less : rest + 1 - 1 ≡ rest = omega arith in
    ap second_in (part_is (p + 1) h.first (rest + 1) sides h.part) ∙ open_part (part_of h.first (rest + 1)) (λ one. absurd (omega (arith, h.more))) ∙ ap too_few less

pub some_answer : (p : ℕ) (sides : List Side) → ((t : ℕ) × NamesSecond p sides t) ⊎ (((place : ℕ) × PassesLeaf p sides place) ⊎ ((rest : ℕ) × EndsAbove p sides rest))
some_answer p sides = of (second_at p sides) refl
  where
    of : (r : Result ℕ ShapeFault) → second_at p sides ≡ r → ((t : ℕ) × NamesSecond p sides t) ⊎ (((place : ℕ) × PassesLeaf p sides place) ⊎ ((rest : ℕ) × EndsAbove p sides rest))
    of (Ok t) e = inl (t, is_second p t sides e)
    of (Err (TooMany place)) e = inr (inl (place, is_passing p place sides e))
    of (Err (TooFew rest)) e = inr (inr (rest, is_above p rest sides e))

-- ---- fronts of ways

pub some_goes_on : (p rest : ℕ) (sides : List Side) → EndsAbove p sides rest → (t : ℕ) × (side : Side) × (more : List Side) × IsWay t (p + 1) (sides ++ side ∷ more)
some_goes_on p rest sides h = of one.0 one.1
  where
    one : Begins h.first (p + 1) sides
    one = (h.part.leaves h.first).1 (omega arith, omega arith)

    apart : (t : ℕ) → second_at p sides ≡ named t → second_at p sides ≡ too_few rest → ⊥
    apart t e f = cc

    of : (more : List Side) → IsWay h.first (p + 1) (sides ++ more) → (t : ℕ) × (side : Side) × (more : List Side) × IsWay t (p + 1) (sides ++ side ∷ more)
    of [] way =
        let whole = subst (IsWay h.first (p + 1)) (append-nil sides) way in
        let t = h.first in
        let w = word_is sides h.first (p + 1) whole in
        absurd (apart h.first (second_found p h.first sides (record { within = omega (arith, w.within); way = whole })) (above_found p rest sides h))
    of (side ∷ more) way = (h.first, side, more, way)

pub front_above : (p t : ℕ) (side : Side) (sides more : List Side) → IsWay t (p + 1) (sides ++ side ∷ more) → (rest : ℕ) × EndsAbove p sides rest
front_above p t side sides more way = elim (some_answer p sides) [
  | inl s ↦ (let none = ends_there s.0 t (p + 1) sides (side ∷ more) s.1.way way in absurd cc)
  | inr (inl q) ↦ absurd (apart q.0 (stays_passed sides (side ∷ more) 0 (part_of 0 (p + 1)) q.0 (passed_at p q.0 sides q.1)) (way_to t (p + 1) (sides ++ side ∷ more) way))
  | inr (inr above) ↦ above
]
  where
    apart : (place : ℕ) → part_at 0 (part_of 0 (p + 1)) (sides ++ side ∷ more) ≡ passed place → part_at 0 (part_of 0 (p + 1)) (sides ++ side ∷ more) ≡ found (part_of t 1) → ⊥
    apart place e f = cc

-- ---- both ways, for any value that is the computed one

pub second_both : (p : ℕ) (sides : List Side) (r : Result ℕ ShapeFault) → r ≡ second_at p sides → (t : ℕ) → (r ≡ named t) ↔ NamesSecond p sides t
second_both p sides r e t = (λ h. is_second p t sides (sym e ∙ h), λ h. e ∙ second_found p t sides h)

pub many_both : (p : ℕ) (sides : List Side) (r : Result ℕ ShapeFault) → r ≡ second_at p sides → (place : ℕ) → (r ≡ too_many place) ↔ PassesLeaf p sides place
many_both p sides r e place = (λ h. is_passing p place sides (sym e ∙ h), λ h. e ∙ passing_found p place sides h)

pub few_both : (p : ℕ) (sides : List Side) (r : Result ℕ ShapeFault) → r ≡ second_at p sides → (rest : ℕ) → (r ≡ too_few rest) ↔ EndsAbove p sides rest
few_both p sides r e rest = (λ h. is_above p rest sides (sym e ∙ h), λ h. e ∙ above_found p rest sides h)
