-- The path above a round: how each Response that was ever sent leads from the item of a round to a root that is held.
use Rattle.std.specs.Prelude.{◌≡◌, ◌≢◌, ℕ, ◌<◌, ◌≤◌, List, length, slice_get, Some}
use Rattle.std.specs.List.{AllByRecursion}
use Rattle.ksi_imprint.specs.Imprints.{zero_imprint}
use Rattle.ksi_aggtree.specs.declared.chains.node.Node.{Node}
use Rattle.ksi_aggtree.specs.declared.entries.Entry.{Entry}
use Rattle.ksi_aggtree.specs.Rounds.{tree_of}
use Rattle.ksi_aggtree.specs.Entries.{items_of}
use Rattle.ksi_calendar.specs.Climbing.{ClimbsCalendar}
use Rattle.ksi_signature.specs.declared.above.Above.{Above}
use Rattle.ksi_calendar.specs.Covered.{IsCovered, covered_root}
use Rattle.ksi_schedule.specs.declared.actor.Actor.{Actor}
use Rattle.ksi_schedule.specs.declared.actor.Actor.TheVariants as actors
use Rattle.ksi_schedule.specs.Plans.{PlanState}
use Rattle.ksi_world.specs.declared.message.Content.TheVariants as contents
use Rattle.ksi_world.specs.declared.message.Message.{Message}
use Rattle.ksi_world.specs.Histories.{WorldState, held_in}
use Rattle.ksi_world.specs.Joined.{ChainsClimb}

-- A core that is the sender holds the root; an aggregator that is the sender passes on what came from a core.
abbrev pub IsHeldBySender : WorldState → (sender : Actor) (second : ℕ) (root : List ℕ) → Type 0
IsHeldBySender w (actors.Core j) second root = held_in w j second ≡ Some root
IsHeldBySender w (actors.Aggregator k) second root = Unit {0}

-- The message gives an aggregator the path above its round.
pub record IsLinked (image : List ℕ → List ℕ) (plan : PlanState) (w : WorldState) (message : Message) (above : Above) : Type 0 where
  -- the aggregator is of the plan, and has closed its round of this second: what is answered is the round's tree
  pub aggregator : ℕ
  pub to : message.addressee ≡ actors.Aggregator aggregator
  pub planned : aggregator < length plan.parents
  pub entries : List Entry
  pub closed : (w.rounds aggregator message.second).closed ≡ Some entries
  -- the aggregation chains climb from this tree, at its level, to the root that the message carries
  pub top : Node
  pub climbs : ChainsClimb image (tree_of image (items_of entries)) above.chains top
  pub root_is : top.imprint ≡ above.root
  -- the root is held for this second by a core of the plan, and by the sender where that is a core
  pub core : ℕ
  pub there : core < plan.cores
  pub held : held_in w core message.second ≡ Some above.root
  pub sender : IsHeldBySender w message.sender message.second above.root
  -- the calendar chain leads on from the root to the root of the calendar to this second, of which the core holds each second
  pub leads_on : ClimbsCalendar image above.root above.calendar (covered_root image (held_in w core) plan.start message.second)
  pub covered : IsCovered (held_in w core) plan.start message.second
  -- the root is not the zero imprint, which would say that the second was missed
  pub real : above.root ≢ zero_imprint
  -- there are at most 8 chains, of at most 17 links each
  pub few : length above.chains ≤ 8
  pub short : AllByRecursion (λ chain. length chain.links ≤ 17) above.chains
  -- levels are at most 153: a level rises with each link, so that of the last one is the greatest
  pub low : top.level ≤ 153
  -- there are at most 63 links in the calendar chain
  pub brief : length above.calendar ≤ 63

-- each Response that was ever sent
abbrev pub ResponsesClimb : (List ℕ → List ℕ) → PlanState → WorldState → Type 0
ResponsesClimb image plan w = (number : ℕ) (message : Message) (above : Above) → slice_get w.wire number ≡ Some message →
    message.content ≡ contents.Response above → IsLinked image plan w message above
