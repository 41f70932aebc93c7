-- The layout of a path in its struct: its sides, and left sides after them.
use Rattle.std.specs.Prelude.{◌≡◌, ℕ, ◌-◌, ◌≤◌, List, ◌++◌, take, drop, length, replicate}
use Rattle.std.proofs.Common.{arith, ap, ◌∙◌, sym}
use Rattle.std.proofs.lemmas.List.{length-take-le, take-append-drop}
use Rattle.ksi_split.specs.declared.side.Side.{Side}
use Rattle.ksi_split.specs.declared.side.Side.TheVariants.{Left}
use Rattle.ksi_split.specs.declared.sides.Way.TheInside.{Inside}

-- the sides of a path
abbrev pub sides_in : Inside → List Side
sides_in way = take way.count way.sides

-- at most 63 sides, and left sides after them up to 63
pub record IsFilled (way : Inside) : Type 0 where
  pub few : way.count ≤ 63
  pub room : length way.sides ≡ 63
  pub filled : drop way.count way.sides ≡ replicate (63 - way.count) Left

-- the struct that holds these sides
abbrev pub way_with : List Side → Inside
way_with sides = record { sides = sides ++ replicate (63 - length sides) Left; count = length sides }

-- the sides of a path determine the whole struct
pub way_with-sides_in : (way : Inside) → IsFilled way → way_with (sides_in way) ≡ way
way_with-sides_in way h =
    let count : length (take way.count way.sides) ≡ way.count = length-take-le way.count way.sides (omega (arith, h.few, h.room)) in
    let left : replicate (63 - length (take way.count way.sides)) Left ≡ drop way.count way.sides = ap (λ (k : ℕ). replicate (63 - k) Left) count ∙ sym h.filled in
    let sides : take way.count way.sides ++ replicate (63 - length (take way.count way.sides)) Left ≡ way.sides
    = ap (λ (more : List Side). take way.count way.sides ++ more) left ∙ take-append-drop way.count way.sides in
    λ i. record { sides = sides i; count = count i }
