-- What holds over every history holds of nodes that crash: by what they keep, issue and answer.
use Rattle.std.proofs.Common.{◌≡◌, ◌<◌, ◌≤◌, ℕ, List, ◌++◌, refl, sym, ◌∙◌}
use Rattle.ksi_signature.specs.declared.answer.Answer.TheVariants.{Published}
use Rattle.ksi_corenode.specs.CoreState.{held_by}
use Rattle.ksi_corenode.specs.Rows.{publish_answer}
use Rattle.ksi_corenode.specs.declared.event.CoreEvent.TheVariants as asked
use Rattle.ksi_schedule.specs.Events.{AreEvents}
use Rattle.ksi_schedule.specs.Plans.{PlanState, IsPlan, core_plan_of}
use Rattle.ksi_schedule.specs.Schedules.{IsHistory}
use Rattle.ksi_schedule.specs.declared.event.Event.{Event}
use Rattle.ksi_world.specs.Histories.{after, held_in}
use Rattle.ksi_replay.specs.HoldsOver.{HoldsOver}
use Rattle.ksi_replay.specs.Joined.{IsPublished}
use Rattle.ksi_replay.specs.Journals.{journal_of}
use Rattle.ksi_laws_crashed.specs.Cores.{IsCoreAfter, Running, TookStep}
use Rattle.ksi_laws_crashed.specs.Headline.{AskForFew, history_of}

pub is_history : (plan : PlanState) (events : List Event) → IsPlan plan → AreEvents plan events → AskForFew events → IsHistory (history_of plan events)
is_history plan events is are few = record { plan = is; events = are; few = few.few; imprints = few.imprints; bytes = few.bytes }

module _ (image : List ℕ → List ℕ) (plan : PlanState)
    (held_there : (events : List Event) (j : ℕ) (running : Running) → IsCoreAfter image plan events j running → (second : ℕ) → held_by running.core second ≡ held_in (after image plan events) j second) where
  -- what a core answers to `publish` is what the history's core answers
  pub published_there : (before later : List Event) (j p : ℕ) (old new : Running) (root : List ℕ) → HoldsOver image (history_of plan (before ++ later)) → IsCoreAfter image plan before j old
      → (took : TookStep image j (core_plan_of plan) (asked.Publish p) old new) → j < plan.cores → plan.start ≤ p → took.step.answer ≡ Published root
      → IsPublished image (journal_of image (history_of plan (before ++ later))) p root
  published_there before later j p old new root holds is took there from answers =
      let held : held_by old.core ≡ held_in (after image plan before) j = (λ i second. held_there before j old is second i) in
      let same : publish_answer image (held_by old.core) old.core.start p ≡ publish_answer image (held_in (after image plan before) j) plan.start p =
      (λ i. publish_answer image (held i) (is.has.begins i) p) in
      holds.answered before later refl j p root there from (sym same ∙ sym took.turn.answer ∙ answers)
