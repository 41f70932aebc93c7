-- What it means that a signature is accepted, without an order of checks.
use Rattle.std.specs.Prelude.{◌≡◌, ◌≢◌, ℕ, ◌<◌, false, List, [], ◌∷◌, length, Some, IfSome}
use Rattle.std.specs.List.{AllByRecursion}
use Rattle.ksi_imprint.specs.Imprints.{zero_imprint}
use Rattle.ksi_split.specs.Ways.{NamesSecond}
use Rattle.ksi_aggtree.specs.Climbing.{Climbs}
use Rattle.ksi_aggtree.specs.declared.chains.node.Node.{Node}
use Rattle.ksi_calendar.specs.Climbing.{ClimbsCalendar}
use Rattle.ksi_calendar.specs.Sides.{sides_from_top}
use Rattle.ksi_publications.specs.Finding.{find}
use Rattle.ksi_signature.specs.Values.{Calendar, Publishing}
use Rattle.ksi_signature.specs.declared.signature.Signature.{Signature}
use Rattle.ksi_signature.specs.Heads.{last_part}
use Rattle.ksi_aggtree.specs.Links.{is_bare}
use Rattle.ksi_verifier.specs.declared.proved.Proved.{Proved}
use Rattle.ksi_verifier.specs.Chains.{PlainChain, plain_chains, at_level_zero, without_last, chain_shape}

-- each next chain's index is that of the chain below it without its last part
abbrev pub AreNested : List PlainChain → Type 0
AreNested [] = Unit {0}
AreNested (chain ∷ []) = Unit {0}
AreNested (below ∷ chain ∷ chains) = (chain.index ≡ without_last below.index) × AreNested (chain ∷ chains)

-- chains lead from a node to a node, one after the other: the input hash of each is the imprint of the node reached so
-- far, and its links lead on from there
abbrev pub ChainsLead : (List ℕ → List ℕ) → Node → List PlainChain → Node → Type 0
ChainsLead image start [] top = start ≡ top
ChainsLead image start (chain ∷ chains) top = (next : Node) × (chain.input ≡ start.imprint) × Climbs image start chain.links next × ChainsLead image next chains top

-- the chains hold together, are of one time, lead from a hash at level 0 to a node, and have no right link whose raw sibling
-- begins as an imprint does
pub record IsAggregated (image : List ℕ → List ℕ) (chains : List PlainChain) (hash : List ℕ) (time : ℕ) (node : Node) : Type 0 where
  pub some : 0 < length chains
  pub order : AreNested chains
  pub shapes : AllByRecursion (λ chain. last_part chain.index ≡ chain_shape chain) chains
  pub lead : ChainsLead image (at_level_zero hash) chains node
  pub times : AllByRecursion (λ chain. chain.time ≡ time) chains
  pub named : AllByRecursion (λ chain. AllByRecursion (λ link. is_bare link ≡ false) chain.links) chains

-- a publication record of a time and a root
abbrev pub IsRecord : ℕ → List ℕ → Publishing → Type 0
IsRecord time root published = (published.time ≡ time) × (published.hash ≡ root)

-- The chains lead from the hash to the root of second t, the calendar chain leads from there to the published root of the
-- calendar, its sides name t, and each stated time is t.
pub record IsAccepted (image : List ℕ → List ℕ) (signature : Signature) (hash : List ℕ) (publications : List (ℕ × List ℕ)) (t : ℕ) : Type 0 where
  pub node : Node
  pub chains : IsAggregated image (plain_chains signature.chains) hash t node
  pub calendar : Calendar
  pub has_calendar : signature.calendar ≡ Some calendar
  pub input : calendar.input ≡ node.imprint
  pub not_missed : calendar.input ≢ zero_imprint
  pub second : NamesSecond calendar.publication (sides_from_top calendar.links) t
  pub time : calendar.time ≡ t
  pub root : List ℕ
  pub climbs : ClimbsCalendar image calendar.input calendar.links root
  pub stated : IfSome signature.publication (IsRecord calendar.publication root)
  pub published : find calendar.publication publications ≡ Some root

-- The signature is accepted at the second, and its calendar chain leads to this publication: the last second and the root of
-- the calendar that was published.
pub record IsProved (image : List ℕ → List ℕ) (signature : Signature) (hash : List ℕ) (publications : List (ℕ × List ℕ)) (proved : Proved) : Type 0 where
  pub accepted : IsAccepted image signature hash publications proved.second
  pub publication : accepted.calendar.publication ≡ proved.publication
  pub root : accepted.root ≡ proved.root
