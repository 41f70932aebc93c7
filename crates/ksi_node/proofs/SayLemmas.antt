-- A step that was stored may be said.
use Rattle.std.proofs.Common.{◌≡◌, ℕ, IsTrue, List}
use Rattle.ksi_synod.specs.CorePlans.{CorePlanState}
use Rattle.ksi_corenode.specs.declared.fact.Fact.{Fact}
use Rattle.ksi_corenode.specs.declared.event.CoreEvent.{CoreEvent}
use Rattle.ksi_corenode.specs.declared.step.Step.{Step}
use Rattle.ksi_corenode.specs.Bare.{is_taken}
use Rattle.ksi_corenode.specs.CoreState.{IsTurn, state_of}
use Rattle.ksi_corenode.specs.Events.{core_row, event_second}
use Rattle.ksi_corenode.specs.Lawful.{with_new}
use Rattle.ksi_nodestore.specs.StoreState.{IsStore, IsStoreOf, StoreState}
use Rattle.ksi_schedule.specs.Pieces.{Text}
use Rattle.ksi_wire.specs.Steps.{core_step_text}
use Rattle.ksi_node.specs.Saying.{MaySay}

module _ {D : Type 0} (image : List ℕ → List ℕ) (content : D → List ℕ) (images : D → List ℕ → Type 0) where
  abbrev Keeps : StoreState D → StoreState D → Step → Type 0
  Keeps old new step = (me : ℕ) (plan : CorePlanState) (facts : List Fact) → IsStoreOf image content images me plan facts old → IsStoreOf image content images me plan (with_new facts step.fact) new

  pub stored_store : (old new : StoreState D) (step : Step) → IsStore image content images old → Keeps old new step → IsStore image content images new
  stored_store old new step was keeps = (was.0, was.1, with_new was.2 step.fact, keeps was.0 was.1 was.2 was.3)

  pub may_say : (old new : StoreState D) (event : CoreEvent) (step : Step) (said : Text) → IsStore image content images old → Keeps old new step
      → IsTrue (is_taken (state_of old.core) event) → IsTurn old.core new.core (event_second event) (core_row image old.core event) step → said ≡ core_step_text old.core.me (event_second event) step → MaySay image content images new said
  may_say old new event step said was keeps taken turn text = record {
    me = was.0;
    plan = was.1;
    facts = was.2;
    before = old.core;
    event = event;
    step = step;
    had = was.3.has;
    taken = taken;
    turn = turn;
    stored = keeps was.0 was.1 was.2 was.3;
    text = text;
  }
