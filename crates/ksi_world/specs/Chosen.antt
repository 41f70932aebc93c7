-- What a majority of a second's voters voted for.
use Rattle.std.specs.Prelude.{◌≡◌, ℕ, ◌*◌, ◌<◌, Bool, true, List, length, slice_get, Some}
use Rattle.std.specs.List.{count_by}
use Rattle.ksi_synod.specs.declared.messages.SynodMessage.{SynodMessage}
use Rattle.ksi_synod.specs.declared.messages.SynodMessage.TheVariants as message
use Rattle.ksi_synod.specs.CorePlans.{voters_of}
use Rattle.ksi_schedule.specs.declared.actor.Actor.{Actor}
use Rattle.ksi_schedule.specs.declared.actor.Actor.TheVariants as actors
use Rattle.ksi_schedule.specs.Plans.{PlanState, core_plan_of}
use Rattle.ksi_world.specs.declared.message.Content.TheVariants as contents
use Rattle.ksi_world.specs.Histories.{WorldState, message_of}

-- the core sent the message of the vote on a second
pub record IsOnWire (w : WorldState) (second sender : ℕ) (what : SynodMessage) : Type 0 where
  pub number : ℕ
  pub addressee : Actor
  pub at : slice_get w.wire number ≡ Some (message_of (actors.Core sender) addressee second (contents.Synod what))

-- the root was begun in the ballot, and more than half of the second's voters voted in it
pub record IsChosen (plan : PlanState) (w : WorldState) (second ballot : ℕ) (root : List ℕ) : Type 0 where
  pub by : ℕ
  pub begun : IsOnWire w second by (message.BeginBallot ballot root)
  pub who : ℕ → Bool
  pub most : length (voters_of (core_plan_of plan) second) < 2 * count_by who (voters_of (core_plan_of plan) second)
  pub voted : (core : ℕ) → who core ≡ true → IsOnWire w second core (message.Voted ballot)
