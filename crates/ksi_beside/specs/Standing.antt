-- Links that lead up to a node of a kept tree.
use Rattle.std.specs.Prelude.{◌≡◌, ℕ, Bool, true, List, [], ◌∷◌, ◌++◌, map, length, Option, Some, None, ◌⊎◌}
use Rattle.ksi_split.specs.declared.side.Side.{Side}
use Rattle.ksi_beside.specs.Beside.{Rung, rung_side, rung_text, pairs_below}

-- each link's string has the imprint that is below the next one, from y down to x
abbrev pub Holds : (List ℕ → List ℕ) → List ℕ → List ℕ → List Rung → Type 0
Holds image x y [] = x ≡ y
Holds image x y (rung ∷ rungs) = (y ≡ image (rung_text rung)) × Holds image x rung.below rungs

-- A kept tree: `node` has the imprint at sides, and `kept` the string of which it is the image, if it is a join. If a
-- link fits, and has the string that is kept at some sides, then the imprint below it, on its side, is the one that the
-- tree has there.
pub record IsTree (image : List ℕ → List ℕ) (kept : List Side → Option (List ℕ)) (node : List Side → Option (List ℕ)) (fits : Rung → Bool) : Type 0 where
  pub hashes : (sides : List Side) (text : List ℕ) → kept sides ≡ Some text → node sides ≡ Some (image text)
  pub below : (sides : List Side) (rung : Rung) → fits rung ≡ true → kept sides ≡ Some (rung_text rung) → node (sides ++ rung.side ∷ []) ≡ Some rung.below

-- how far links go down a tree, from the node at the sides above: those that are passed lead to a node, and those that are
-- left lead on from its imprint, for which no string is kept
pub record Walked (image : List ℕ → List ℕ) (kept : List Side → Option (List ℕ)) (node : List Side → Option (List ℕ)) (above : List Side) (x : List ℕ) (rungs : List Rung) : Type 0 where
  pub passed : List Rung
  pub left : List Rung
  pub split : rungs ≡ passed ++ left
  pub number : length (pairs_below kept above rungs) ≡ length passed
  pub reached : List ℕ
  pub there : node (above ++ map rung_side passed) ≡ Some reached
  pub stops : (left ≡ []) ⊎ (kept (above ++ map rung_side passed) ≡ None)
  pub rest : Holds image x reached left
