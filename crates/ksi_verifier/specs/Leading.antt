-- Where aggregation chains lead, each by itself; at which link a level passes 255, which chain breaks and which is out of order.
use Rattle.std.specs.Prelude.{◌≡◌, ◌≢◌, ℕ, ◌+◌, ◌<◌, ◌≤◌, List, [], ◌∷◌, take, slice_get, Option, Some}
use Rattle.std.specs.List.{flat_map}
use Rattle.ksi_aggtree.specs.Links.{PlainLink}
use Rattle.ksi_aggtree.specs.Climbing.{Climbs, PassesLevels, level_after}
use Rattle.ksi_aggtree.specs.declared.chains.node.Node.{Node}
use Rattle.ksi_verifier.specs.Chains.{PlainChain, without_last}

-- the links of chains, one chain after the other
abbrev pub chain_links : PlainChain → List PlainLink
chain_links chain = chain.links

abbrev pub all_links : List PlainChain → List PlainLink
all_links chains = flat_map chain_links chains

-- each chain leads to its node, from its own input hash, and from the level of the node that the chain below it leads to
abbrev pub HaveTops : (List ℕ → List ℕ) → ℕ → List PlainChain → List Node → Type 0
HaveTops image level [] [] = Unit {0}
HaveTops image level [] (top ∷ nodes) = ⊥
HaveTops image level (chain ∷ chains) [] = ⊥
HaveTops image level (chain ∷ chains) (top ∷ nodes) = Climbs image (record { imprint = chain.input; level = level }) chain.links top × HaveTops image top.level chains nodes

-- the level at which chain k begins, where the first one begins at the level given
abbrev pub level_before : ℕ → List PlainChain → ℕ → ℕ
level_before start chains k = level_after start (all_links (take k chains))

-- in chain k the link at a place is the first of all links whose level passes 255, and that level is `high`
pub record PassesIn (start : ℕ) (chains : List PlainChain) (k place high : ℕ) : Type 0 where
  pub chain : PlainChain
  pub there : slice_get chains k ≡ Some chain
  pub low : level_before start chains k ≤ 255
  pub passes : PassesLevels (level_before start chains k) chain.links place high

-- the input hash of chain k is the first that is not the imprint to which the chain below it leads, and no level passes
-- 255
pub record BreaksAt (image : List ℕ → List ℕ) (chains : List PlainChain) (k : ℕ) (computed stated : List ℕ) : Type 0 where
  pub nodes : List Node
  pub tops : HaveTops image 0 chains nodes
  pub below : ℕ
  pub above : k ≡ below + 1
  pub node : Node
  pub has_node : slice_get nodes below ≡ Some node
  pub chain : PlainChain
  pub has_chain : slice_get chains k ≡ Some chain
  pub is_computed : computed ≡ node.imprint
  pub is_stated : stated ≡ chain.input
  pub differ : stated ≢ computed
  pub first : (j : ℕ) (other : Node) (next : PlainChain) → j < below → slice_get nodes j ≡ Some other → slice_get chains (j + 1) ≡ Some next → next.input ≡ other.imprint

-- the index of the chain above chain k is the first that is not that of the chain below it without its last part; at this
-- place they first differ, and there they have these parts: an index that has ended has none
pub record OutOfOrder (chains : List PlainChain) (k place : ℕ) (lower higher : Option ℕ) : Type 0 where
  pub below : PlainChain
  pub has_below : slice_get chains k ≡ Some below
  pub above : PlainChain
  pub has_above : slice_get chains (k + 1) ≡ Some above
  pub same : take place (without_last below.index) ≡ take place above.index
  pub is_lower : slice_get (without_last below.index) place ≡ lower
  pub is_higher : slice_get above.index place ≡ higher
  pub differ : lower ≢ higher
  pub first : (j : ℕ) (other next : PlainChain) → j < k → slice_get chains j ≡ Some other → slice_get chains (j + 1) ≡ Some next → next.index ≡ without_last other.index
