-- Elements as they are written, one after the other.
use Rattle.std.specs.Prelude.{ℕ, List, map}
use Rattle.ksi_tlv.specs.Spelling.{Tlv, canonical}
use Rattle.ksi_tlv.specs.Walking.{PlacedTlv, joined, laid}

-- each element with its text
abbrev pub written : List Tlv → List (Tlv × List ℕ)
written es = map (λ e. (e, canonical e)) es

-- the bytes
abbrev pub texts : List Tlv → List ℕ
texts es = joined (written es)

-- the elements with their places
abbrev pub placed : ℕ → List Tlv → List PlacedTlv
placed place es = laid place (written es)
