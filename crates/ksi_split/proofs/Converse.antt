-- Sides that lead to a part are the front of the way to each of its leaves.
use Rattle.std.proofs.Common.{◌≡◌, ℕ, ◌+◌, ◌-◌, ◌<◌, ◌≤◌, List, [], ◌∷◌, ◌++◌, Result, Ok, Err, sym, ap, ◌∙◌, arith, inl, inr}
use Rattle.ksi_split.specs.declared.side.Side.{Side}
use Rattle.ksi_split.specs.declared.side.Side.TheVariants.{Left, Right}
use Rattle.ksi_split.specs.Ways.{way_of}
use Rattle.ksi_split.specs.Powers.{split_of}
use Rattle.ksi_split.specs.Parts.{Part, half_of, part_at}
use Rattle.ksi_split.proofs.Powers.{eq_cases, split_is}
use Rattle.ksi_split.proofs.Ways.{part_of, part_next, way_left, way_right}

-- the part lies within n leaves from the first, and the way to its leaf u begins with the sides
pub record IsFront (first n : ℕ) (sides : List Side) (q : Part) : Type 0 where
  pub some : 0 < q.count
  pub from : first ≤ q.first
  pub within : q.first + q.count ≤ first + n
  pub way : (u : ℕ) → u < q.count → way_of (q.first - first + u) n ≡ sides ++ way_of u q.count

abbrev found : Part → Result Part ℕ
found p = Ok p

abbrev passed : ℕ → Result Part ℕ
passed place = Err place

ok_part : (p q : Part) → found p ≡ found q → p ≡ q
ok_part p q e = cc

on_side : (side : Side) (sides : List Side) (place first n : ℕ) (q : Part) → 1 < n → part_at (place + 1) (half_of (part_of first n) side) sides ≡ Ok q
    → ((place first n : ℕ) → 0 < n → part_at place (part_of first n) sides ≡ Ok q → IsFront first n sides q) → IsFront first n (side ∷ sides) q
on_side Left sides place first n q more e known =
    let s = split_is n more in
    let h = known (place + 1) first (split_of n) (omega (arith, s.below, s.greatest)) e in
    record {
      some = h.some;
      from = h.from;
      within = omega (arith, h.within, s.below);
      way = λ u lt. way_left (q.first - first + u) n more (omega (arith, h.within, h.from)) ∙ ap (λ (w : List Side). Left ∷ w) (h.way u lt);
    }
on_side Right sides place first n q more e known =
    let s = split_is n more in
    let h = known (place + 1) (first + split_of n) (n - split_of n) (omega (arith, s.below)) e in
    record {
      some = h.some;
      from = omega (arith, h.from);
      within = omega (arith, h.within, s.below);
      way = λ u lt. (let less : q.first - first + u - split_of n ≡ q.first - (first + split_of n) + u = omega (arith, h.from) in
          way_right (q.first - first + u) n more (omega (arith, h.from))
          ∙ ap (λ (i : ℕ). Right ∷ way_of i (n - split_of n)) less ∙ ap (λ (w : List Side). Right ∷ w) (h.way u lt));
    }

pub leads_to : (sides : List Side) (place first n : ℕ) (q : Part) → 0 < n → part_at place (part_of first n) sides ≡ Ok q → IsFront first n sides q
leads_to [] place first n q some e =
    let is : part_of first n ≡ q = ok_part (part_of first n) q e in
    let f : first ≡ q.first = ap (λ (p : Part). p.first) is in
    let c : n ≡ q.count = ap (λ (p : Part). p.count) is in
    record {
      some = omega arith;
      from = omega arith;
      within = omega arith;
      way = λ u lt. (let here : q.first - first + u ≡ u = omega arith in ap (λ (i : ℕ). way_of i n) here ∙ ap (way_of u) c);
    }
leads_to (side ∷ sides) place first n q some e = elim (eq_cases n 1) [
  | inl t ↦ absurd (over (sym (ap (λ (m : ℕ). part_at place (part_of first m) (side ∷ sides)) t.1) ∙ e))
  | inr f ↦ on_side side sides place first n q (omega (arith, f.1)) (sym (part_next place first n side sides f.1) ∙ e) (λ place first n some e. leads_to sides place first n q some e)
]
  where
    over : passed place ≡ found q → ⊥
    over h = cc
