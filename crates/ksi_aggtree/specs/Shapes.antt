-- The shape of a chain: its sides in one number.
use Rattle.std.specs.Prelude.{◌≡◌, ℕ, ◌+◌, ◌/◌, ◌^◌, List, [], ◌∷◌, length, slice_get, Some}
use Rattle.std.specs.Int.{bit_at}
use Rattle.ksi_split.specs.declared.side.Side.{Side}
use Rattle.ksi_split.specs.declared.side.Side.TheVariants.{Left, Right}

-- a left link's bit is set
abbrev pub side_bit : Side → ℕ
side_bit Left = 1
side_bit Right = 0

-- bit i is the bit of side i from the bottom, and a leading one is above them
pub record IsShape (sides : List Side) (shape : ℕ) : Type 0 where
  pub leading : shape / 2 ^ length sides ≡ 1
  pub bits : (i : ℕ) (side : Side) → slice_get sides i ≡ Some side → bit_at shape i ≡ side_bit side

-- 2 ^ i for each left side i, the first of the sides being side i
abbrev pub left_powers : ℕ → List Side → ℕ
left_powers i [] = 0
left_powers i (Left ∷ sides) = 2 ^ i + left_powers (i + 1) sides
left_powers i (Right ∷ sides) = left_powers (i + 1) sides

-- 2 ^ n for n sides, and 2 ^ i for each left side i from the bottom
abbrev pub shape_of : List Side → ℕ
shape_of sides = 2 ^ length sides + left_powers 0 sides
