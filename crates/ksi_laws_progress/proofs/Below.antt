-- The laws of the crates below, as the proofs here take them.
use Rattle.std.proofs.Common.{◌≡◌, ℕ, ◌≤◌, List, [], ◌∷◌, ◌++◌, length, Some, None}
use Rattle.std.specs.Prelude.{slice_get, IsSome, ◌↔◌}
use Rattle.ksi_calendar.specs.Covered.{Roots, first_missing}
use Rattle.ksi_synod.specs.CorePlans.{CorePlanState, IsCorePlan, AreVoters, voters_of}
use Rattle.ksi_schedule.specs.declared.event.Event.{Event}
use Rattle.ksi_schedule.specs.Plans.{PlanState, IsPlan}
use Rattle.ksi_schedule.specs.Events.{History, AreEvents}
use Rattle.ksi_world.specs.declared.outcome.Asked.{Asked}
use Rattle.ksi_world.specs.Histories.{WorldState, held_in, happens, run, after, world_of}
use Rattle.ksi_world.specs.Lasting.{AreSecondsOf, AreSubmitted, IsAskedOf}

-- a core's state of each second stays its own
pub record SecondsKeep : Type 0 where
  pub event : (image : List ℕ → List ℕ) (plan : PlanState) (w : WorldState) (e : Event) → AreSecondsOf image plan w.seconds → AreSecondsOf image plan (happens image plan w e).world.seconds
  pub history : (image : List ℕ → List ℕ) (plan : PlanState) (events : List Event) → AreSecondsOf image plan (after image plan events).seconds

-- what the laws on seconds stand on
pub record VoteLaws : Type 0 where
  pub agree : (image : List ℕ → List ℕ) (history : History) → IsPlan history.plan → AreEvents history.plan history.events →
      (one other second : ℕ) (d e : List ℕ) → held_in (world_of image history) one second ≡ Some d →
      held_in (world_of image history) other second ≡ Some e → d ≡ e
  pub stays : (image : List ℕ → List ℕ) (plan : PlanState) (before later : List Event) (core second : ℕ) (root : List ℕ) →
      held_in (after image plan before) core second ≡ Some root → held_in (after image plan (before ++ later)) core second ≡ Some root
  pub are_there : (plan : CorePlanState) (second : ℕ) → IsCorePlan plan → AreVoters plan.cores (voters_of plan second)
  pub are_few : (cores : ℕ) (voters : List ℕ) → AreVoters cores voters → length voters ≤ cores
  pub own : SecondsKeep

-- the law of the first missing second
abbrev pub NoneMissing : Type 0
NoneMissing = (roots : Roots) (start last : ℕ) → (first_missing roots start last ≡ None) ↔ ((t : ℕ) → start ≤ t → t ≤ last → IsSome (roots t))

-- each closed round that has items is submitted
pub record ClosedSubmitted : Type 0 where
  pub event : (image : List ℕ → List ℕ) (plan : PlanState) (w : WorldState) (e : Event) → AreSubmitted plan w → AreSubmitted plan (happens image plan w e).world
  pub history : (image : List ℕ → List ℕ) (plan : PlanState) (events : List Event) → AreSubmitted plan (after image plan events)

-- each accepted request was made of an aggregator of the plan
abbrev pub RequestsOfPlan : Type 0
RequestsOfPlan = (image : List ℕ → List ℕ) (plan : PlanState) (events : List Event) → AreEvents plan events →
    (number : ℕ) (asked : Asked) → slice_get (after image plan events).requests number ≡ Some asked → IsAskedOf plan asked

-- OVER SEVERAL EVENTS

pub run_own : SecondsKeep → (image : List ℕ → List ℕ) (plan : PlanState) (es : List Event) (w : WorldState) → AreSecondsOf image plan w.seconds → AreSecondsOf image plan (run image plan w es).seconds
run_own keep image plan [] w are = are
run_own keep image plan (e ∷ es) w are = run_own keep image plan es (happens image plan w e).world (keep.event image plan w e are)

pub run_submitted : ClosedSubmitted → (image : List ℕ → List ℕ) (plan : PlanState) (es : List Event) (w : WorldState) → AreSubmitted plan w → AreSubmitted plan (run image plan w es)
run_submitted keep image plan [] w are = are
run_submitted keep image plan (e ∷ es) w are = run_submitted keep image plan es (happens image plan w e).world (keep.event image plan w e are)
