-- Going down a kept tree along links, the top one first, for the proof of the code.
use Rattle.std.specs.Prelude.{ℕ, List, [], ◌∷◌, ◌++◌, Option, Some, None, if◌then◌else◌}
use Rattle.std.specs.Str.{bytes_eq}
use Rattle.ksi_split.specs.declared.side.Side.{Side}
use Rattle.ksi_split.specs.declared.side.Side.TheVariants.{Left, Right}
use Rattle.ksi_beside.specs.declared.rung.Rung as rungs
use Rattle.ksi_beside.specs.declared.walk.Walk.{Walk}
use Rattle.ksi_beside.specs.declared.walk.Walk.TheVariants.{Apart, At, Past}
use Rattle.ksi_beside.specs.Beside.{Rung, rung_text}

-- the bit of a side in a place
abbrev pub bit_of : Side → ℕ
bit_of Left = 0
bit_of Right = 1

-- a link of the code, wherever its bytes lie in memory
abbrev pub view_rung : rungs.Rung → Rung
view_rung rung = record { side = rung.side; below = rung.below.now; sibling = rung.sibling.now; level = rung.level }

abbrev pub laid : Option (List ℕ) → List Side → Rung → Walk
laid None sides rung = Past sides
laid (Some text) sides rung = if bytes_eq (rung_text rung) text then At (sides ++ rung.side ∷ []) else Apart (record { one = rung_text rung; two = text })

-- one link further down
abbrev pub step : (List Side → Option (List ℕ)) → Walk → Rung → Walk
step kept (Apart clash) rung = Apart clash
step kept (At sides) rung = laid (kept sides) sides rung
step kept (Past sides) rung = Past sides

-- along all links
abbrev pub go : (List Side → Option (List ℕ)) → Walk → List Rung → Walk
go kept walk [] = walk
go kept walk (rung ∷ rungs) = go kept (step kept walk rung) rungs
