-- The parts of the chains above in a response.
use Rattle.std.specs.Prelude.{◌≡◌, ◌≤◌, ◌⊎◌, List, length, take, drop}
use Rattle.std.specs.List.{AllByRecursion}
use Rattle.ksi_split.specs.declared.side.Side.TheVariants.{Left}
use Rattle.ksi_aggtree.specs.declared.chains.link.Link.{Link}
use Rattle.ksi_aggtree.specs.declared.chains.link.Sibling.{Sibling}
use Rattle.ksi_aggtree.specs.declared.chains.link.Sibling.TheVariants as siblings

-- an imprint, not raw bytes
abbrev pub IsNode : Sibling → Type 0
IsNode (siblings.Imprint imprint) = Unit {0}
IsNode (siblings.Legacy bytes) = ⊥
IsNode (siblings.Metadata bytes) = ⊥

-- metadata of 1 to 70 bytes
abbrev pub IsShortMetadata : Sibling → Type 0
IsShortMetadata (siblings.Imprint imprint) = ⊥
IsShortMetadata (siblings.Legacy bytes) = ⊥
IsShortMetadata (siblings.Metadata bytes) = (1 ≤ length bytes) × (length bytes ≤ 70)

-- the link that leads up from an item with a name
pub record IsNameLink (link : Link) : Type 0 where
  pub side : link.side ≡ Left
  pub correction : link.correction ≡ 0
  pub sibling : IsShortMetadata link.sibling

-- links of a round's tree, the lowest first: their siblings are imprints, but the lowest may lead up from an item with a name
pub record AreRoundLinks (links : List Link) : Type 0 where
  pub count : length links ≤ 17
  pub lowest : AllByRecursion (λ link. IsNode link.sibling ⊎ IsNameLink link) (take 1 links)
  pub others : AllByRecursion (λ link. IsNode link.sibling) (drop 1 links)
