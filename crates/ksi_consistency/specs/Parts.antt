-- Parts of a tree: what sides from its top lead to.
use Rattle.std.specs.Prelude.{◌≡◌, ℕ, List, Ok}
use Rattle.ksi_split.specs.Parts.{part_at}
use Rattle.ksi_split.specs.declared.side.Side.{Side}

-- some sides lead from the top of a tree of n leaves to the `count` leaves from `first`
abbrev pub IsPart : (n first count : ℕ) → Type 0
IsPart n first count = (sides : List Side) × (part_at 0 (record { first = 0; count = n }) sides ≡ Ok (record { first = first; count = count }))
