-- How many aggregators stand above one another.
use Rattle.std.proofs.Common.{◌≡◌, ℕ, zero, suc, ◌<◌, ◌≤◌, length, refl, sym, ap, subst, arith}
use Rattle.std.specs.Prelude.{slice_index_or}
use Rattle.std.proofs.lemmas.Option.{slice_get-get_or}
use Rattle.ksi_schedule.specs.declared.actor.Actor.{Actor}
use Rattle.ksi_schedule.specs.declared.actor.Actor.TheVariants as actors
use Rattle.ksi_schedule.specs.Plans.{PlanState, IsPlan, IsParent, ReachesCore, no_parent, parent_of}
use Rattle.ksi_world.specs.Sound.{depth_within, depth_of}

module _ (plan : PlanState) where
  within_most : (n : ℕ) (a : Actor) → depth_within plan n a ≤ n
  unfolding depth_within
  within_most n (actors.Core j) = omega arith
  within_most zero (actors.Aggregator k) = omega arith
  within_most (suc n) (actors.Aggregator k) = omega (arith, within_most n (parent_of plan k))

  pub depth_most : (a : Actor) → depth_of plan a ≤ 8
  unfolding depth_of
  depth_most a = within_most 8 a

  within_more : (n : ℕ) (a : Actor) → ReachesCore plan n a → depth_within plan (suc n) a ≡ depth_within plan n a
  unfolding depth_within ReachesCore
  within_more n (actors.Core j) r = refl
  within_more zero (actors.Aggregator k) r = absurd r
  within_more (suc n) (actors.Aggregator k) r = ap suc (within_more n (parent_of plan k) r)

  module _ (is : IsPlan plan) where
    -- one more than its parent
    pub depth_child : (k : ℕ) → k < length plan.parents → depth_of plan (actors.Aggregator k) ≡ suc (depth_of plan (parent_of plan k))
    unfolding depth_of depth_within ReachesCore
    depth_child k lt = ap suc (sym (within_more 7 (parent_of plan k) (is.low k lt)))

    -- a parent is an actor of the plan
    pub parent_is : (k : ℕ) → k < length plan.parents → IsParent plan.cores k (parent_of plan k)
    parent_is k lt = is.parents k (slice_index_or plan.parents k no_parent) (slice_get-get_or plan.parents k no_parent lt)

    -- a core that is a parent is one of the plan's
    pub core_parent : (from j : ℕ) → from < length plan.parents → actors.Core j ≡ parent_of plan from → j < plan.cores
    core_parent from j lt same = subst (λ parent. IsParent plan.cores from parent) (sym same) (parent_is from lt)

    -- so is an aggregator
    pub aggregator_parent : (from k : ℕ) → from < length plan.parents → actors.Aggregator k ≡ parent_of plan from → k < length plan.parents
    aggregator_parent from k lt same = let below : k < from = subst (λ parent. IsParent plan.cores from parent) (sym same) (parent_is from lt) in omega (arith, below, lt)
