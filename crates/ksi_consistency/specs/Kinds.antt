-- The kinds of the elements of a front's file, in their order.
use Rattle.std.specs.Prelude.{ℕ, List, ◌∷◌, map}
use Rattle.ksi_tlv.specs.Kinds.{HasKinds}
use Rattle.ksi_consistency.specs.Elements.{Contents}
use Rattle.ksi_consistency.specs.File.{magic}

-- the older second, the newer one, then imprints
abbrev pub front_kinds : Contents → List ℕ
front_kinds front = 1 ∷ 2 ∷ map (λ imprint. 3) front.list

-- after the magic there are whole elements, and their kinds are those of the front, one for one
abbrev pub IsInOrder : List ℕ → Contents → Type 0
IsInOrder bytes front = HasKinds magic (front_kinds front) bytes
