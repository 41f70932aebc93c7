-- The kinds of a file's elements, in their order.
use Rattle.std.specs.Prelude.{◌≡◌, ℕ, List, ◌++◌, length, map}
use Rattle.ksi_tlv.specs.Walking.{PlacedTlv, elements, items_of}

abbrev pub kinds_of : List PlacedTlv → List ℕ
kinds_of es = map (λ at. at.element.kind) es

-- after the magic come whole elements, and these are their kinds, in order
pub record HasKinds (magic kinds bytes : List ℕ) : Type 0 where
  pub rest : List ℕ
  pub begins : bytes ≡ magic ++ rest
  pub es : List PlacedTlv
  pub whole : elements (length magic) rest ≡ items_of es
  pub kinds_are : kinds_of es ≡ kinds
