-- Cores that retire at a second, which are asked nothing about later ones, and majorities of voters.
use Rattle.std.specs.Prelude.{◌≡◌, ◌≢◌, ℕ, ◌*◌, ◌≤◌, ◌<◌, Bool, true, List, ◌∷◌, ◌++◌, length, Some, None}
use Rattle.std.specs.List.{AllByRecursion, count_by}
use Rattle.ksi_synod.specs.CorePlans.{voters_of}
use Rattle.ksi_corenode.specs.declared.event.CoreEvent.{CoreEvent}
use Rattle.ksi_corenode.specs.declared.fact.Fact.{Fact}
use Rattle.ksi_corenode.specs.Events.{event_second}
use Rattle.ksi_schedule.specs.declared.event.Event.{Event}
use Rattle.ksi_schedule.specs.Plans.{PlanState, core_plan_of}
use Rattle.ksi_world.specs.CoreEvents.{asked_of}
use Rattle.ksi_world.specs.Histories.{after}

-- these cores are more than half of a second's voters
abbrev pub AreMost : PlanState → (second : ℕ) → (who : ℕ → Bool) → Type 0
AreMost plan second who = length (voters_of (core_plan_of plan) second) < 2 * count_by who (voters_of (core_plan_of plan) second)

-- each of these facts is of a second at or before the last
abbrev pub AreUpTo : (last : ℕ) → List Fact → Type 0
AreUpTo last facts = AllByRecursion (λ (fact : Fact). fact.second ≤ last) facts

module _ (image : List ℕ → List ℕ) (plan : PlanState) where
  -- none of the later events, which follow those before, asks the core about the second
  abbrev pub IsUnasked : (before later : List Event) (core second : ℕ) → Type 0
  IsUnasked before later core second = (first rest : List Event) (event : Event) (asked : CoreEvent) → later ≡ first ++ event ∷ rest → asked_of core (after image plan (before ++ first)).wire event ≡ Some asked → event_second asked ≢ second

  -- none of them asks it about a second after the last
  abbrev pub IsUnaskedAfter : (last : ℕ) (before later : List Event) (core : ℕ) → Type 0
  IsUnaskedAfter last before later core = (first rest : List Event) (event : Event) (asked : CoreEvent) → later ≡ first ++ event ∷ rest → asked_of core (after image plan (before ++ first)).wire event ≡ Some asked → event_second asked ≤ last

  -- At some moment of these events the core had cast no vote on a second after the last. From then on it is asked about none
  pub record HasRetired (last : ℕ) (events : List Event) (core : ℕ) : Type 0 where
    pub before : List Event
    pub later : List Event
    pub split : events ≡ before ++ later
    pub cast : (second : ℕ) → last < second → ((after image plan before).seconds core second).vote.vote ≡ None
    pub unasked : IsUnaskedAfter last before later core

  -- more than half of the voters of each second after the last, each of which is as said
  abbrev pub EachMost : (last : ℕ) → (P : (core : ℕ) → Type 0) → Type 0
  EachMost last P = (second : ℕ) → last < second → (who : ℕ → Bool) × AreMost plan second who × ((core : ℕ) → who core ≡ true → P core)
