-- The parts of a signature.
use Rattle.std.specs.Prelude.{ℕ, ◌≤◌, ◌<◌, List, [], ◌∷◌, length, Option}
use Rattle.std.specs.List.{AllByRecursion}
use Rattle.ksi_split.specs.declared.tree_link.TreeLink.{TreeLink}
use Rattle.ksi_aggtree.specs.declared.chains.link.Link.{Link}
use Rattle.ksi_aggtree.specs.declared.chains.link.Sibling.{Sibling}
use Rattle.ksi_aggtree.specs.declared.chains.link.Sibling.TheVariants as siblings

-- an aggregation chain: its time, its place in the tree of chains, the input data if present, the imprint that its links
-- lead from, and the links, the lowest first
pub record Aggregation : Type 0 where
  pub time : ℕ
  pub index : List ℕ
  pub input_body : Option (List ℕ)
  pub input : List ℕ
  pub links : List Link

-- a calendar chain: the last second of its tree, the second that it leads from, that second's root, and the links
pub record Calendar : Type 0 where
  pub publication : ℕ
  pub time : ℕ
  pub input : List ℕ
  pub links : List (TreeLink (List ℕ))

-- a published time and hash, and where it was published
pub record Publishing : Type 0 where
  pub time : ℕ
  pub hash : List ℕ
  pub references : List (List ℕ)
  pub repositories : List (List ℕ)

-- ---- limits

-- a raw sibling has 1 to 4,096 bytes
abbrev pub HasSize : Sibling → Type 0
HasSize (siblings.Imprint imprint) = Unit {0}
HasSize (siblings.Legacy bytes) = (0 < length bytes) × (length bytes ≤ 4096)
HasSize (siblings.Metadata bytes) = (0 < length bytes) × (length bytes ≤ 4096)

-- links of one chain
pub record AreLinks (links : List Link) : Type 0 where
  pub count : length links ≤ 63
  pub sizes : AllByRecursion (λ link. HasSize link.sibling) links

-- each chain has at most as many index parts as the one before it, the first at most a number
abbrev pub FallFrom : ℕ → List Aggregation → Type 0
FallFrom most [] = Unit {0}
FallFrom most (chain ∷ chains) = (length chain.index ≤ most) × FallFrom (length chain.index) chains

abbrev pub Fall : List Aggregation → Type 0
Fall [] = Unit {0}
Fall (chain ∷ chains) = FallFrom (length chain.index) chains

-- the chains of one signature
pub record AreChains (chains : List Aggregation) : Type 0 where
  pub some : 0 < length chains
  pub count : length chains ≤ 16
  pub fall : Fall chains
