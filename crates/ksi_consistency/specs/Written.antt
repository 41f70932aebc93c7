-- A front as it is written.
use Rattle.std.specs.Prelude.{ℕ, List, ◌∷◌, ◌++◌, map}
use Rattle.ksi_tlv.specs.Spelling.{Tlv, plain}
use Rattle.ksi_tlv.specs.Numerals.{numeral}
use Rattle.ksi_tlv.specs.Writing.{texts}
use Rattle.ksi_consistency.specs.Elements.{Contents}
use Rattle.ksi_consistency.specs.File.{magic}

abbrev pub imprint_elements : List (List ℕ) → List Tlv
imprint_elements list = map (λ x. plain 3 x) list

abbrev pub front_elements : Contents → List Tlv
front_elements front = plain 1 (numeral front.p1) ∷ plain 2 (numeral front.p2) ∷ imprint_elements front.list

abbrev pub front_text : Contents → List ℕ
front_text front = magic ++ texts (front_elements front)
