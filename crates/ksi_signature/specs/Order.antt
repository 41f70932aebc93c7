-- The order of a signature's chains.
use Rattle.std.specs.Prelude.{ℕ, ◌==◌, length, List, [], ◌∷◌, if◌then◌else◌}
use Rattle.ksi_tlv.specs.Walking.{PlacedTlv}
use Rattle.ksi_signature.specs.Values.{Aggregation}
use Rattle.ksi_signature.specs.Contents.{chain_in}
use Rattle.ksi_signature.specs.Kinds.{chain_kind}

-- the chains of elements in the order of the elements
abbrev pub chains_among : List PlacedTlv → List Aggregation
chains_among [] = []
chains_among (at ∷ es) = if at.element.kind == chain_kind then chain_in at ∷ chains_among es else chains_among es

-- the chains with n index parts, in order
abbrev pub with_parts : ℕ → List Aggregation → List Aggregation
with_parts parts [] = []
with_parts parts (chain ∷ chains) = if length chain.index == parts then chain ∷ with_parts parts chains else with_parts parts chains
