-- Which text of a step a core may write, and when.
use Rattle.std.specs.Prelude.{◌≡◌, ℕ, IsTrue, List}
use Rattle.ksi_synod.specs.CorePlans.{CorePlanState}
use Rattle.ksi_corenode.specs.declared.fact.Fact.{Fact}
use Rattle.ksi_corenode.specs.declared.event.CoreEvent.{CoreEvent}
use Rattle.ksi_corenode.specs.declared.step.Step.{Step}
use Rattle.ksi_corenode.specs.Bare.{is_taken}
use Rattle.ksi_corenode.specs.CoreState.{CoreState, IsTurn, state_of}
use Rattle.ksi_corenode.specs.Events.{core_row, event_second}
use Rattle.ksi_corenode.specs.Lawful.{with_new}
use Rattle.ksi_corenode.specs.Restored.{HasFacts}
use Rattle.ksi_nodestore.specs.StoreState.{IsStoreOf, StoreState}
use Rattle.ksi_schedule.specs.Pieces.{Text}
use Rattle.ksi_wire.specs.Steps.{core_step_text}

-- The text is that of a step that led to the core of this store: the row of its event in the core before it. That core is the one
-- of the facts before, and takes the event by the rule about forgotten seconds. The fact of the step, if any, is in the file of
-- the store, which is durable: a crash from now on leaves a file that has the fact.
pub record MaySay {D : Type 0} (image : List ℕ → List ℕ) (content : D → List ℕ) (images : D → List ℕ → Type 0) (store : StoreState D) (said : Text) : Type 0 where
  pub me : ℕ
  pub plan : CorePlanState
  pub facts : List Fact
  pub before : CoreState
  pub event : CoreEvent
  pub step : Step
  pub had : HasFacts image plan facts before
  pub taken : IsTrue (is_taken (state_of before) event)
  pub turn : IsTurn before store.core (event_second event) (core_row image before event) step
  pub stored : IsStoreOf image content images me plan (with_new facts step.fact) store
  pub text : said ≡ core_step_text before.me (event_second event) step
