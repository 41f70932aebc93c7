-- Histories: a plan, and what happened.
use Rattle.std.specs.Prelude.{◌<◌, List, [], ◌∷◌, ◌++◌, length, All, IfSome}
use Rattle.std.specs.List.{AllByRecursion}
use Rattle.ksi_imprint.specs.Imprints.{IsImprint}
use Rattle.ksi_aggtree.specs.Names.{IsName}
use Rattle.ksi_schedule.specs.Plans.{PlanState, InRange}
use Rattle.ksi_schedule.specs.declared.event.Event.{Event}
use Rattle.ksi_schedule.specs.declared.event.Event.TheVariants as events

-- the event's actor is there, its second is the plan's, and what a request is made under, if anything, is a name
abbrev pub IsEvent : PlanState → Event → Type 0
IsEvent plan (events.Request k t imprint name) = (k < length plan.parents) × InRange plan t × IfSome name IsName
IsEvent plan (events.Close k t) = (k < length plan.parents) × InRange plan t
IsEvent plan (events.Seal j t) = (j < plan.cores) × InRange plan t
IsEvent plan (events.Ballot j t) = (j < plan.cores) × InRange plan t
IsEvent plan (events.Deliver number) = Unit {0}
IsEvent plan (events.Tell j t) = (j < plan.cores) × InRange plan t
IsEvent plan (events.Respond j t) = (j < plan.cores) × InRange plan t
IsEvent plan (events.Publish j p) = (j < plan.cores) × InRange plan p
IsEvent plan (events.RestartCore j) = j < plan.cores
IsEvent plan (events.RestartAggregator k) = k < length plan.parents

abbrev pub AreEvents : PlanState → List Event → Type 0
AreEvents plan [] = Unit {0}
AreEvents plan (e ∷ es) = IsEvent plan e × AreEvents plan es

-- what a request asks to sign is an imprint
abbrev pub AsksForImprint : Event → Type 0
AsksForImprint (events.Request k t imprint name) = IsImprint imprint
AsksForImprint _ = Unit {0}

abbrev pub AskForImprints : List Event → Type 0
AskForImprints es = AllByRecursion AsksForImprint es

-- and its numbers are bytes
abbrev pub AsksForBytes : Event → Type 0
AsksForBytes (events.Request k t imprint name) = All (λ b. b < 256) imprint
AsksForBytes _ = Unit {0}

abbrev pub AskForBytes : List Event → Type 0
AskForBytes es = AllByRecursion AsksForBytes es

-- a plan, and what happened
pub record History : Type 0 where
  pub plan : PlanState
  pub events : List Event

-- the history with one more event
abbrev pub with_event : History → Event → History
with_event h event = record { plan = h.plan; events = h.events ++ event ∷ [] }
