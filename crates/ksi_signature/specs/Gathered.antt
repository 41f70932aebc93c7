-- The chains of elements, while they are gathered.
use Rattle.std.specs.Prelude.{◌≡◌, List, [], ◌∷◌, Option, Some, None}
use Rattle.ksi_tlv.specs.Walking.{PlacedTlv}
use Rattle.ksi_signature.specs.Contents.{chains_behind}
use Rattle.ksi_signature.specs.PartsSeen.{chain_seen}
use Rattle.ksi_signature.specs.declared.chain_view.ChainView.{ChainView}

-- the elements have no chain; or this is their first, and these elements are after it
abbrev pub BeginsChains : List PlacedTlv → Option ChainView → List PlacedTlv → Type 0
BeginsChains es None left = chains_behind [] es ≡ []
BeginsChains es (Some chain) left = chains_behind [] es ≡ chains_behind (chain_seen chain ∷ []) left
