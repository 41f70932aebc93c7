-- A store that follows a core of a world goes on with an event.
use Rattle.ksi_schedule.specs.Plans.{PlanState, core_plan_of}
use Rattle.std.proofs.Common.{◌≡◌, ℕ, List, [], ◌∷◌, ◌++◌, option_map, refl, sym, ap, subst, ◌∙◌, Option, Some, None}
use Rattle.ksi_synod.specs.VoteState as votes
use Rattle.ksi_corenode.specs.SecondState.{fresh_second}
use Rattle.ksi_corenode.specs.Rows.{restart_row}
use Rattle.ksi_corenode.specs.Turns.{Turn}
use Rattle.ksi_corenode.specs.Facts.{fact_of}
use Rattle.ksi_corenode.specs.Lawful.{with_new}
use Rattle.ksi_corenode.specs.CoreState.{CoreState, state_of, IsTurn}
use Rattle.ksi_corenode.specs.Events.{core_row, event_second}
use Rattle.ksi_corenode.specs.Restored.{IsOfFacts, restored}
use Rattle.ksi_corenode.specs.declared.event.CoreEvent.{CoreEvent}
use Rattle.ksi_corenode.specs.declared.fact.Fact.{Fact}
use Rattle.ksi_corenode.specs.declared.step.Step.{Step}
use Rattle.ksi_disk.specs.Deeds.{StoredDisk, content_of}
use Rattle.ksi_disk.specs.declared.log.GateLog.{GateLog}
use Rattle.ksi_nodestore.specs.Crashes.{IsRestarted}
use Rattle.ksi_nodestore.specs.StoreState.{IsStoreOf, StoreState}
use Rattle.ksi_schedule.specs.declared.event.Event.{Event}
use Rattle.ksi_world.specs.Histories.{WorldState, after, first_world, happens, run}
use Rattle.ksi_world.specs.Nodes.{IsCore, core_turn}
use Rattle.ksi_world.specs.CoreEvents.{asked_of}
use Rattle.ksi_laws_facts.specs.Seen.{seen}
use Rattle.ksi_laws_facts.specs.State.{world_seen}
use Rattle.ksi_laws_facts.specs.Steps.{IsStepByFacts}
use Rattle.ksi_node_file.specs.CoreFacts.{core_facts}
use Rattle.ksi_node_file.specs.Followed.{HasTaken, images_of, IsFollowing, IsInMemory, IsOpened}
use Rattle.ksi_node_file.proofs.FactsMore.{RowsStore, facts_asked, facts_first, facts_unasked}

run_more : (image : List ℕ → List ℕ) (plan : PlanState) (w : WorldState) (es : List Event) (e : Event) → run image plan w (es ++ e ∷ []) ≡ (happens image plan (run image plan w es) e).world
run_more image plan w [] e = refl
run_more image plan w (x ∷ es) e = run_more image plan (happens image plan w x).world es e

pub after_more : (image : List ℕ → List ℕ) (plan : PlanState) (es : List Event) (e : Event) → after image plan (es ++ e ∷ []) ≡ (happens image plan (after image plan es) e).world
unfolding after
after_more image plan es e = run_more image plan (first_world plan) es e

pub first_keeps : (image : List ℕ → List ℕ) (plan : PlanState) (j t : ℕ) (core : CoreState) → IsOfFacts image j (core_plan_of plan) [] core → state_of core t ≡ (after image plan []).seconds j t
unfolding after first_world restored fresh_second votes.fresh_vote
first_keeps image plan j t core is = is.seconds t

-- before anything happened
pub follows_first : (image : List ℕ → List ℕ) (plan : PlanState) (j : ℕ) (store : StoreState StoredDisk) → IsOpened image j (core_plan_of plan) [] store → IsFollowing image plan [] j store
follows_first image plan j store is = record {
  held = subst (λ (facts : List Fact). IsInMemory image j (core_plan_of plan) facts store) (sym (facts_first image plan j)) is.held;
  keeps = λ t. first_keeps image plan j t store.core is.made;
}

module _ (image : List ℕ → List ℕ) (plan : PlanState) (before : List Event) (event : Event) (j : ℕ)
    (seen_is : after image plan before ≡ world_seen image plan (seen image plan before)) (step : IsStepByFacts image plan before event)
    (old new : StoreState StoredDisk) (follows : IsFollowing image plan before j old) where
  pub core_is : IsCore plan ((after image plan before).seconds j) j old.core
  core_is = record {
    me = follows.held.stored.mine;
    core_plan = follows.held.stored.has.planned;
    start = follows.held.stored.has.begins;
    keeps = follows.keeps;
  }

  -- a step of the core
  pub follows_step : RowsStore image → (e : CoreEvent) → asked_of j (after image plan before).wire event ≡ Some e → core_row image old.core e ≡ core_turn image plan (after image plan before) j e
      → ((step : Step) → IsTurn old.core new.core (event_second e) (core_row image old.core e) step → (t : ℕ) → state_of new.core t ≡ (happens image plan (after image plan before) event).world.seconds j t)
      → HasTaken image j (core_plan_of plan) (core_facts image plan before j) e old new → IsFollowing image plan (before ++ event ∷ []) j new
  follows_step rows e asked row turned taken =
      let facts = core_facts image plan before j in
      let fact : taken.step.fact ≡ option_map (fact_of (event_second e)) (core_turn image plan (after image plan before) j e).fact = taken.turn.fact ∙ ap (λ (turn : Turn). option_map (fact_of (event_second e)) turn.fact) row in
      record {
        held = subst (λ (facts : List Fact). IsInMemory image j (core_plan_of plan) facts new)
            (ap (λ (fact : Option Fact). with_new facts fact) fact ∙ sym (facts_asked image plan before event j seen_is step rows e asked)) taken.held;
        keeps = λ t. turned taken.step taken.turn t ∙ ap (λ (w : WorldState). w.seconds j t) (sym (after_more image plan before event));
      }

  -- nothing
  pub follows_still : asked_of j (after image plan before).wire event ≡ None → ((t : ℕ) → (happens image plan (after image plan before) event).world.seconds j t ≡ (after image plan before).seconds j t)
      → IsFollowing image plan (before ++ event ∷ []) j old
  follows_still asked still = record {
    held = subst (λ (facts : List Fact). IsInMemory image j (core_plan_of plan) facts old) (sym (facts_unasked image plan before event j seen_is step asked)) follows.held;
    keeps = λ t. follows.keeps t ∙ sym (still t) ∙ ap (λ (w : WorldState). w.seconds j t) (sym (after_more image plan before event));
  }

  -- a restart
  pub follows_restart : asked_of j (after image plan before).wire event ≡ None → ((t : ℕ) → (happens image plan (after image plan before) event).world.seconds j t ≡ restart_row ((after image plan before).seconds j t))
      → IsRestarted old.core new.core → new.log ≡ old.log → IsStoreOf image content_of images_of j (core_plan_of plan) (core_facts image plan before j) new → IsFollowing image plan (before ++ event ∷ []) j new
  follows_restart asked restarts again log_is stored =
      let facts = core_facts image plan before j in
      record {
        held = subst (λ (facts : List Fact). IsInMemory image j (core_plan_of plan) facts new) (sym (facts_unasked image plan before event j seen_is step asked)) (record {
          stored = stored;
          exact = ap (λ (log : GateLog StoredDisk). content_of log.disk) log_is ∙ follows.held.exact;
          sure = ap (λ (log : GateLog StoredDisk). log.disk.failing) log_is ∙ follows.held.sure;
        });
        keeps = λ t. again t ∙ ap restart_row (follows.keeps t) ∙ sym (restarts t) ∙ ap (λ (w : WorldState). w.seconds j t) (sym (after_more image plan before event));
      }
