-- Going down a tree by sides: the part that they lead to, as a value.
use Rattle.std.specs.Prelude.{ℕ, ◌+◌, ◌-◌, ◌==◌, List, [], ◌∷◌, Result, Ok, Err, if◌then◌else◌}
use Rattle.ksi_split.specs.Powers.{split_of}
use Rattle.ksi_split.specs.declared.side.Side.{Side}
use Rattle.ksi_split.specs.declared.side.Side.TheVariants.{Left, Right}
use Rattle.ksi_split.specs.declared.fault.ShapeFault.{ShapeFault}
use Rattle.ksi_split.specs.declared.fault.ShapeFault.TheVariants.{TooMany, TooFew}

-- a part of a tree: its first leaf, and how many it has
pub record Part : Type 0 where
  pub first : ℕ
  pub count : ℕ

-- one of both parts that a part is cut into
abbrev pub half_of : Part → Side → Part
half_of part Left = record { first = part.first; count = split_of part.count }
half_of part Right = record { first = part.first + split_of part.count; count = part.count - split_of part.count }

-- the part that sides from the top lead to, or the place of the first side below a leaf, counted from the place given
abbrev pub part_at : ℕ → Part → List Side → Result Part ℕ
part_at place part [] = Ok part
part_at place part (side ∷ sides) = if part.count == 1 then Err place else part_at (place + 1) (half_of part side) sides

-- the second that a part is, or the fault if it is not one second
abbrev pub second_in : Result Part ℕ → Result ℕ ShapeFault
second_in (Ok part) = if part.count == 1 then Ok part.first else Err (TooFew (part.count - 1))
second_in (Err place) = Err (TooMany place)

-- the second that the sides name among the seconds from 0 to p
unfoldable pub second_at : ℕ → List Side → Result ℕ ShapeFault
second_at p sides = second_in (part_at 0 (record { first = 0; count = p + 1 }) sides)
