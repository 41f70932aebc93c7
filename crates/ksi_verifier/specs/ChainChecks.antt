-- The checks of aggregation chains, in their order. The lowest chain is chain 0; inside one check the lowest chain that
-- fails counts, then its lowest link.
use Rattle.std.specs.Prelude.{ℕ, ◌+◌, ◌==◌, List, [], ◌∷◌, Option, Some, None, Result, Ok, Err, if◌then◌else◌}
use Rattle.std.specs.Str.{bytes_eq}
use Rattle.ksi_imprint.specs.Imprints.{zero_imprint}
use Rattle.ksi_aggtree.specs.Links.{first_bare}
use Rattle.ksi_aggtree.specs.Climbing.{climbed}
use Rattle.ksi_aggtree.specs.declared.chains.node.Node.{Node}
use Rattle.ksi_aggtree.specs.declared.chains.climbing.LevelFault.{LevelFault}
use Rattle.ksi_aggtree.specs.declared.chains.climbing.LevelFault.TheVariants.{Over}
use Rattle.ksi_signature.specs.declared.signature.Signature.{Signature}
use Rattle.ksi_verifier.specs.declared.aggregated.Aggregated.{Aggregated}
use Rattle.ksi_verifier.specs.declared.refusal.Refusal.{Refusal}
use Rattle.ksi_verifier.specs.declared.refusal.Refusal.TheVariants.{IndexOrder, IndexShape, Level, ChainBreak, AggregationTimes, BareMetadata}
use Rattle.ksi_verifier.specs.Checks.{◌>>=◌, ◌>>◌, need, each}
use Rattle.ksi_verifier.specs.Chains.{PlainChain, plain_chains, first_chain, higher_chains, at_level_zero, without_last, chain_shape}
use Rattle.ksi_signature.specs.Heads.{last_part}

-- ---- V2: the index of each next chain is that of the chain below it without its last part

-- two lists of parts are equal: one from chain k's index, the other the index of the chain above it; a list that has
-- ended has no part
abbrev pub same_parts : ℕ → ℕ → List ℕ → List ℕ → Result (Unit {0}) Refusal
same_parts k place [] [] = Ok tt
same_parts k place (a ∷ lower) [] = Err (IndexOrder k place (Some a) None)
same_parts k place [] (b ∷ higher) = Err (IndexOrder k place None (Some b))
same_parts k place (a ∷ lower) (b ∷ higher) = if a == b then same_parts k (place + 1) lower higher else Err (IndexOrder k place (Some a) (Some b))

-- the same for the chains from k on; the lowest is a parameter of its own
abbrev pub index_order : ℕ → PlainChain → List PlainChain → Result (Unit {0}) Refusal
index_order k below [] = Ok tt
index_order k below (chain ∷ chains) = same_parts k 0 (without_last below.index) chain.index >> index_order (k + 1) chain chains

-- ---- V3: the last part of each chain's index is the chain's shape

abbrev pub index_shape : ℕ → PlainChain → Result (Unit {0}) Refusal
index_shape k chain = need (last_part chain.index == chain_shape chain) (IndexShape k (last_part chain.index) (chain_shape chain))

abbrev pub index_shapes : ℕ → List PlainChain → Result (Unit {0}) Refusal
index_shapes k chains = each index_shape k chains

-- ---- V4: no level passes 255

abbrev pub or_level : ℕ → Result Node LevelFault → Result Node Refusal
or_level k (Ok top) = Ok top
or_level k (Err (Over link level)) = Err (Level k link level)

-- the node that chain k leads to, from its own input hash at a level
abbrev pub top_of : (List ℕ → List ℕ) → ℕ → ℕ → PlainChain → Result Node Refusal
top_of image k level chain = or_level k (climbed image 0 (record { imprint = chain.input; level = level }) chain.links)

-- the nodes that the chains from k on lead to, each from its own input hash, and from the level that the chain below it
-- leads to
abbrev pub tops : (List ℕ → List ℕ) → ℕ → ℕ → List PlainChain → Result (List Node) Refusal
tops image k level [] = Ok []
tops image k level (chain ∷ chains) = do
  top ← top_of image k level chain
  higher ← tops image (k + 1) top.level chains
  Ok (top ∷ higher)

-- ---- V5: the input hash of each next chain is the imprint that the chain below it leads to

-- the nodes that lie below the chains from k on
abbrev pub unbroken : ℕ → List Node → List PlainChain → Result (Unit {0}) Refusal
unbroken k (below ∷ nodes) (chain ∷ chains) = need (bytes_eq chain.input below.imprint) (ChainBreak k below.imprint chain.input) >> unbroken (k + 1) nodes chains
unbroken k nodes [] = Ok tt
unbroken k [] (chain ∷ chains) = Ok tt

-- the highest of nodes, or the one given if there are none
abbrev pub last_node : Node → List Node → Node
last_node below [] = below
last_node below (node ∷ nodes) = last_node node nodes

-- V4, then V5: the node that all chains lead to
abbrev pub joined_chains : (List ℕ → List ℕ) → List PlainChain → Result Node Refusal
joined_chains image chains = do
  nodes ← tops image 0 0 chains
  unbroken 1 nodes (higher_chains chains)
  Ok (last_node (at_level_zero zero_imprint) nodes)

-- ---- V6: each chain has the first chain's time

abbrev pub same_time : ℕ → ℕ → PlainChain → Result (Unit {0}) Refusal
same_time first k chain = need (chain.time == first) (AggregationTimes k first chain.time)

abbrev pub same_times : ℕ → ℕ → List PlainChain → Result (Unit {0}) Refusal
same_times first k chains = each (same_time first) k chains

-- ---- V15: no raw sibling of a right link begins with 0x01, as an imprint does

abbrev pub or_bare : ℕ → Option ℕ → Result (Unit {0}) Refusal
or_bare k None = Ok tt
or_bare k (Some link) = Err (BareMetadata k link)

-- the check of the links of chain k
abbrev pub none_bare : ℕ → PlainChain → Result (Unit {0}) Refusal
none_bare k chain = or_bare k (first_bare 0 chain.links)

abbrev pub no_bare_links : ℕ → List PlainChain → Result (Unit {0}) Refusal
no_bare_links k chains = each none_bare k chains

-- ---- V2 to V6 and V15: the time of the chains and the node that they lead to, or the first check that fails

abbrev pub chains_checked : (List ℕ → List ℕ) → List PlainChain → Result Aggregated Refusal
chains_checked image chains = do
  index_order 0 (first_chain chains) (higher_chains chains)
  index_shapes 0 chains
  node ← joined_chains image chains
  same_times (first_chain chains).time 0 chains
  no_bare_links 0 chains
  Ok (record { time = (first_chain chains).time; node = node })

-- the same for a signature
abbrev pub aggregated : (List ℕ → List ℕ) → Signature → Result Aggregated Refusal
aggregated image signature = chains_checked image (plain_chains signature.chains)
