-- Which text of a step an aggregator may write, and when.
use Rattle.std.specs.Prelude.{◌≡◌, ℕ, List}
use Rattle.ksi_schedule.specs.Pieces.{Text}
use Rattle.ksi_schedule.specs.Plans.{PlanState}
use Rattle.ksi_aggregator.specs.declared.event.RoundEvent.{RoundEvent}
use Rattle.ksi_aggregator.specs.declared.step.Step.{Step}
use Rattle.ksi_aggregator.specs.Events.{MayTake}
use Rattle.ksi_aggregator.specs.Rounds.{rounds_of}
use Rattle.ksi_roundstore.specs.StoreState.{StoreState}
use Rattle.ksi_aggregator.specs.Lawful.{with_new}
use Rattle.ksi_aggregator.specs.declared.fact.Fact.{Fact}
use Rattle.ksi_roundstore.specs.Stores.{IsStoreOf}
use Rattle.ksi_roundstore.specs.Takes.{HasStored, TookTurn}
use Rattle.ksi_node.specs.RoundOutcomes.{round_said}

-- The text is that of a step that led from an earlier store to this one: the row of an event that the earlier aggregator may
-- take. The file of the store is durable and has the earlier records and the record of the step's fact: it is the store of
-- the earlier facts and this one. So a crash from now on is a restart of this aggregator.
pub record MaySayRound {D : Type 0} (image : List ℕ → List ℕ) (content : D → List ℕ) (images : D → List ℕ → Type 0) (plan : PlanState) (store : StoreState D) (said : Text) : Type 0 where
  pub before : StoreState D
  pub event : RoundEvent
  pub step : Step
  pub due : MayTake (rounds_of before.aggregator) event
  pub turn : TookTurn image before.aggregator store.aggregator event step
  pub stored : HasStored content images step.fact before.log store.log
  pub facts : List Fact
  pub kept : IsStoreOf content images before.aggregator.me plan (with_new facts step.fact) store
  pub text : said ≡ round_said plan before.aggregator.me event step
