-- The second that sides name is the one whose way they are.
use Rattle.std.proofs.Common.{◌≡◌, ℕ, ◌+◌, ◌-◌, ◌≤◌, List, ◌++◌, Result, Ok, Err, refl, ap, ◌∙◌, arith, inl, inr, append-nil}
use Rattle.ksi_split.specs.declared.side.Side.{Side}
use Rattle.ksi_split.specs.declared.fault.ShapeFault.{ShapeFault}
use Rattle.ksi_split.specs.Ways.{way_of}
use Rattle.ksi_split.specs.Parts.{Part, part_at, second_in, second_at}
use Rattle.ksi_split.proofs.Powers.{eq_cases, below_power}
use Rattle.ksi_split.proofs.Ways.{part_of, way_leads, way_one}
use Rattle.ksi_split.proofs.Converse.{IsFront, leads_to}

-- the way to a second names it
pub second_names : (p t : ℕ) → t ≤ p → second_at p (way_of t (p + 1)) ≡ Ok t
unfolding second_at
second_names p t le =
    let leads = way_leads (p + 1) 0 0 t (p + 1) (omega arith) (omega (arith, below_power (p + 1))) in
    let zero_plus : 0 + t ≡ t = omega arith in
    ap second_in leads ∙ ap (λ (i : ℕ). second_in (Ok (part_of i 1))) zero_plus

abbrev named : ℕ → Result ℕ ShapeFault
named t = Ok t

pub record IsNamed (p t : ℕ) (sides : List Side) : Type 0 where
  pub within : t ≤ p
  pub way : way_of t (p + 1) ≡ sides

-- sides that name a second are its way
pub second_is : (p t : ℕ) (sides : List Side) → second_at p sides ≡ named t → IsNamed p t sides
unfolding second_at
second_is p t sides e = of (part_at 0 (part_of 0 (p + 1)) sides) refl e
  where
    at_one : (q : Part) → q.count ≡ 1 → q.first ≡ t → IsFront 0 (p + 1) sides q → IsNamed p t sides
    at_one q one first h = record {
      within = omega (arith, h.within);
      way = (let place : t ≡ q.first - 0 + 0 = omega arith in
          ap (λ (i : ℕ). way_of i (p + 1)) place ∙ h.way 0 (omega arith) ∙ ap (λ (n : ℕ). sides ++ way_of 0 n) one ∙ ap (λ (w : List Side). sides ++ w) (way_one 0) ∙ append-nil sides);
    }

    first_of : (q : Part) → second_in (Ok q) ≡ named t → (q.count ≡ 1) × (q.first ≡ t)
    first_of q e = elim (eq_cases q.count 1) [
      | inl y ↦ (let is = rw y.0 at e in (y.1, cc))
      | inr f ↦ (let is = rw f.0 at e in absurd cc)
    ]

    of : (r : Result Part ℕ) → part_at 0 (part_of 0 (p + 1)) sides ≡ r → second_in r ≡ named t → IsNamed p t sides
    of (Ok q) is e = let f = first_of q e in at_one q f.0 f.1 (leads_to sides 0 0 (p + 1) q (omega arith) is)
    of (Err place) is e = absurd cc
