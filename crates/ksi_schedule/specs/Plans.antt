-- Plans: how many cores there are, the first second, who votes on which second, and whom each aggregator submits to, under
-- which name.
use Rattle.std.specs.Prelude.{◌≡◌, ℕ, zero, suc, ◌+◌, ◌^◌, ◌<◌, ◌≤◌, List, length, slice_get, slice_index_or, Option, Some, None, IfSome}
use Rattle.ksi_synod.specs.declared.core_plan.VotersFrom.{VotersFrom}
use Rattle.ksi_synod.specs.CorePlans.{CorePlanState, IsCorePlan}
use Rattle.ksi_aggtree.specs.Names.{IsName}
use Rattle.ksi_schedule.specs.declared.actor.Actor.{Actor}
use Rattle.ksi_schedule.specs.declared.actor.Actor.TheVariants as actors
use Rattle.ksi_schedule.specs.declared.parent.Parent.{Parent}

-- the number of cores, the first second, from which second on which cores vote, and the parent of each aggregator, that of
-- aggregator 0 first
pub record PlanState : Type 0 where
  pub cores : ℕ
  pub start : ℕ
  pub voters : List VotersFrom
  pub parents : List Parent

-- what of it the cores know
abbrev pub core_plan_of : PlanState → CorePlanState
core_plan_of plan = record { cores = plan.cores; start = plan.start; voters = plan.voters }

-- core 0, under no name
abbrev pub no_parent : Parent
no_parent = record { actor = actors.Core 0; name = None }

-- whom the aggregator submits to
abbrev pub parent_of : PlanState → (aggregator : ℕ) → Actor
parent_of plan k = (slice_index_or plan.parents k no_parent).actor

-- the name that it submits under
abbrev pub name_of : PlanState → (aggregator : ℕ) → Option (List ℕ)
name_of plan k = (slice_index_or plan.parents k no_parent).name

-- a parent of aggregator k: a core of the plan, or an aggregator with a smaller number
abbrev pub IsParent : (cores k : ℕ) → Actor → Type 0
IsParent cores k (actors.Core j) = j < cores
IsParent cores k (actors.Aggregator i) = i < k

-- from the actor a core is reached in this many steps up, or fewer
unfoldable pub ReachesCore : PlanState → (steps : ℕ) → Actor → Type 0
ReachesCore plan steps (actors.Core j) = j < plan.cores
ReachesCore plan zero (actors.Aggregator k) = ⊥
ReachesCore plan (suc steps) (actors.Aggregator k) = ReachesCore plan steps (parent_of plan k)

-- what the cores know is within its limits, and there are at most 4,096 aggregators, at most eight of them above one
-- another; what an aggregator submits under, if anything, is a name
pub record IsPlan (plan : PlanState) : Type 0 where
  pub core_plan : IsCorePlan (core_plan_of plan)
  pub many : length plan.parents ≤ 4096
  pub parents : (k : ℕ) (parent : Parent) → slice_get plan.parents k ≡ Some parent → IsParent plan.cores k parent.actor
  pub names : (k : ℕ) → IfSome (name_of plan k) IsName
  pub low : (k : ℕ) → k < length plan.parents → ReachesCore plan 8 (actors.Aggregator k)

-- the second is one of the plan's
abbrev pub InRange : PlanState → (second : ℕ) → Type 0
InRange plan t = (plan.start ≤ t) × (t < plan.start + 2 ^ 24)
