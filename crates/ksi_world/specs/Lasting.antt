-- What lasts in every world: whose each second's state is, what closed rounds sent, and who was asked.
use Rattle.std.specs.Prelude.{◌≡◌, ℕ, ◌<◌, List, length, slice_get, option_map, Some}
use Rattle.ksi_aggtree.specs.declared.item.Item.{Item}
use Rattle.ksi_aggtree.specs.declared.entries.Entry.{Entry}
use Rattle.ksi_aggtree.specs.Entries.{candidate_of}
use Rattle.ksi_synod.specs.CorePlans.{voters_of}
use Rattle.ksi_synod.specs.VoteState.{IsVoteStateOf}
use Rattle.ksi_corenode.specs.SecondState.{SecondState}
use Rattle.ksi_schedule.specs.declared.actor.Actor.TheVariants as actors
use Rattle.ksi_schedule.specs.Plans.{PlanState, InRange, core_plan_of, parent_of}
use Rattle.ksi_world.specs.declared.message.Content.TheVariants as contents
use Rattle.ksi_world.specs.declared.message.Message.{Message}
use Rattle.ksi_world.specs.declared.outcome.Asked.{Asked}
use Rattle.ksi_world.specs.Histories.{WorldState, message_of}

-- the state is this core's, of a second with these voters; its candidate is the imprint of the tree of its sealed items, if
-- it sealed some
pub record IsSecondOf (image : List ℕ → List ℕ) (voters : List ℕ) (core : ℕ) (s : SecondState) : Type 0 where
  pub vote : IsVoteStateOf voters core s.vote
  pub candidate : s.vote.candidate ≡ option_map (candidate_of image) s.sealed

-- so is each core's state of each second
abbrev pub AreSecondsOf : (List ℕ → List ℕ) → PlanState → (seconds : ℕ → ℕ → SecondState) → Type 0
AreSecondsOf image plan seconds = (core second : ℕ) → IsSecondOf image (voters_of (core_plan_of plan) second) core (seconds core second)

-- the aggregator's Submission for the second was sent to its parent
pub record IsSubmitted (plan : PlanState) (aggregator second : ℕ) (wire : List Message) : Type 0 where
  pub number : ℕ
  pub item : Item
  pub at : slice_get wire number ≡ Some (message_of (actors.Aggregator aggregator) (parent_of plan aggregator) second (contents.Submission item))

-- each closed round that has items was submitted
abbrev pub AreSubmitted : PlanState → WorldState → Type 0
AreSubmitted plan w = (k t : ℕ) (entries : List Entry) → (w.rounds k t).closed ≡ Some entries → 0 < length entries → IsSubmitted plan k t w.wire

-- an aggregator of the plan was asked, for a second of the plan
abbrev pub IsAskedOf : PlanState → Asked → Type 0
IsAskedOf plan asked = (asked.aggregator < length plan.parents) × InRange plan asked.second
