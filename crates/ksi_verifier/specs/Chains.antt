-- Aggregation chains as the checks see them, whoever owns their parts.
use Rattle.std.specs.Prelude.{ℕ, ◌-◌, List, [], ◌∷◌, length, map, take}
use Rattle.ksi_imprint.specs.Imprints.{zero_imprint}
use Rattle.ksi_aggtree.specs.Links.{PlainLink}
use Rattle.ksi_aggtree.specs.Owned.{plain_links}
use Rattle.ksi_aggtree.specs.Shapes.{shape_of}
use Rattle.ksi_aggtree.specs.declared.chains.node.Node.{Node}
use Rattle.ksi_signature.specs.Values.{Aggregation}

-- a chain's time, index and input hash, and its links, the lowest first
pub record PlainChain : Type 0 where
  pub time : ℕ
  pub index : List ℕ
  pub input : List ℕ
  pub links : List PlainLink

abbrev pub plain_chain : Aggregation → PlainChain
plain_chain chain = record { time = chain.time; index = chain.index; input = chain.input; links = plain_links chain.links }

-- the chains of a signature
abbrev pub plain_chains : List Aggregation → List PlainChain
plain_chains chains = map plain_chain chains

-- the first chain; a signature has one
abbrev pub first_chain : List PlainChain → PlainChain
first_chain [] = record { time = 0; index = []; input = zero_imprint; links = [] }
first_chain (chain ∷ chains) = chain

-- the chains above the first
abbrev pub higher_chains : List PlainChain → List PlainChain
higher_chains [] = []
higher_chains (chain ∷ chains) = chains

-- an imprint at level 0, where the first chain begins
abbrev pub at_level_zero : List ℕ → Node
at_level_zero imprint = record { imprint = imprint; level = 0 }

-- ---- indexes

abbrev pub without_last : List ℕ → List ℕ
without_last index = take (length index - 1) index

-- the shape of a chain: the shape of its links' sides
abbrev pub chain_shape : PlainChain → ℕ
chain_shape chain = shape_of (map (λ link. link.side) chain.links)
