-- How issued signatures and publications relate to the kept seconds.
use Rattle.std.specs.Prelude.{◌≡◌, ◌≢◌, ℕ, List, [], ◌∷◌, slice_get, Some}
use Rattle.ksi_imprint.specs.Imprints.{zero_imprint}
use Rattle.ksi_calendar.specs.Covered.{IsCovered, covered_root, covered_path}
use Rattle.ksi_aggtree.specs.Climbing.{Climbs}
use Rattle.ksi_aggtree.specs.Owned.{plain_links}
use Rattle.ksi_aggtree.specs.declared.chains.node.Node.{Node}
use Rattle.ksi_aggtree.specs.declared.chains.link.Link.{Link}
use Rattle.ksi_signature.specs.declared.above.Above.{Above}
use Rattle.ksi_signature.specs.declared.above.AboveChain.{AboveChain}
use Rattle.ksi_signature.specs.Issued.{issued, own_chain}
use Rattle.ksi_signature.specs.Written.{signature_text}
use Rattle.ksi_schedule.specs.Plans.{PlanState}
use Rattle.ksi_world.specs.declared.outcome.Asked.{Asked}
use Rattle.ksi_world.specs.Histories.{WorldState}
use Rattle.ksi_world.specs.Records.{kept_root}

-- the second is covered by what is kept, and the root is that of the calendar of it, from second 0 to p
pub record IsKeptRoot (image : List ℕ → List ℕ) (plan : PlanState) (w : WorldState) (p : ℕ) (root : List ℕ) : Type 0 where
  pub covered : IsCovered (kept_root plan w) plan.start p
  pub root_is : root ≡ covered_root image (kept_root plan w) plan.start p

-- chains climb from an item to an item, one after the other: each has the imprint that it is reached with as its input,
-- and its links climb on from there, at the level that was reached
abbrev pub ChainsClimb : (List ℕ → List ℕ) → (start : Node) → List AboveChain → (top : Node) → Type 0
ChainsClimb image start [] top = start ≡ top
ChainsClimb image start (chain ∷ chains) top =
    (next : Node) × (chain.input ≡ start.imprint) × Climbs image start (plain_links chain.links) next × ChainsClimb image next chains top

-- The text is the signature of the request of this number. Its chains climb from the request's imprint at level 0 to the
-- root that is kept for its second, which is not the zero imprint. All seconds up to it are kept, and its calendar chain
-- leads from that root to the calendar of this second.
pub record IsJoined (image : List ℕ → List ℕ) (plan : PlanState) (w : WorldState) (number : ℕ) (text : List ℕ) : Type 0 where
  pub asked : Asked
  pub accepted : slice_get w.requests number ≡ Some asked
  pub links : List Link
  pub above : Above
  pub text_is : text ≡ signature_text (issued asked.second asked.imprint links above)
  pub top : Node
  pub climbs : ChainsClimb image (record { imprint = asked.imprint; level = 0 }) (own_chain asked.imprint links ∷ above.chains) top
  pub root_is : top.imprint ≡ above.root
  pub kept : kept_root plan w asked.second ≡ Some above.root
  pub real : above.root ≢ zero_imprint
  pub covered : IsCovered (kept_root plan w) plan.start asked.second
  pub calendar : above.calendar ≡ covered_path image (kept_root plan w) plan.start asked.second asked.second
