-- A history in which a request waits.
use Rattle.std.proofs.Common.{◌≡◌, ℕ, zero, suc, ◌<◌, Bool, eqb, true, false, List, [], ◌∷◌, refl, subst, arith, inr, Some, None}
use Rattle.std.specs.Prelude.{slice_get, IfSome, ◌||◌}
use Rattle.ksi_aggtree.specs.Names.{IsName}
use Rattle.ksi_synod.specs.Voters.{is_voter}
use Rattle.ksi_synod.specs.VoteState.{fresh_vote}
use Rattle.ksi_corenode.specs.SecondState.{fresh_second}
use Rattle.ksi_aggregator.specs.Rows.{round_request}
use Rattle.ksi_schedule.specs.declared.actor.Actor.TheVariants as actors
use Rattle.ksi_schedule.specs.declared.parent.Parent.{Parent}
use Rattle.ksi_schedule.specs.Plans.{IsPlan, IsParent, name_of, ReachesCore}
use Rattle.ksi_schedule.specs.Schedules.{IsSchedule}
use Rattle.ksi_world.specs.Histories.{world_of, happens, first_world, after}
use Rattle.ksi_laws_progress.specs.Runs.{three_cores, one_request, asked_once}
use Rattle.ksi_laws_progress.specs.Issuing.{IsWaiting, IsUndecided}

abbrev first_parent : Parent
first_parent = record { actor = actors.Core 0; name = None }

abbrev second_parent : Parent
second_parent = record { actor = actors.Aggregator 0; name = None }

parents_are : (k : ℕ) (parent : Parent) → slice_get three_cores.parents k ≡ Some parent → IsParent 3 k parent.actor
parents_are zero parent at = let same : first_parent ≡ parent = cc at in subst (λ (parent : Parent). IsParent 3 0 parent.actor) same (omega arith)
parents_are (suc zero) parent at = let same : second_parent ≡ parent = cc at in subst (λ (parent : Parent). IsParent 3 1 parent.actor) same (omega arith)
parents_are (suc (suc k)) parent at = absurd (cc at)

names_are : (k : ℕ) → IfSome (name_of three_cores k) IsName
names_are zero = tt
names_are (suc zero) = tt
names_are (suc (suc k)) = tt

low_are : (k : ℕ) → k < 2 → ReachesCore three_cores 8 (actors.Aggregator k)
unfolding ReachesCore
low_are zero lt = omega arith
low_are (suc zero) lt = omega arith
low_are (suc (suc k)) lt = absurd (omega arith)

or_right_of : (a b : Bool) → b ≡ true → (a || b) ≡ true
or_right_of true b is = refl
or_right_of false b is = is

plan_is : IsPlan three_cores
plan_is = record {
  core_plan = record { some = omega arith; few = omega arith; early = omega arith; many = omega arith; rising = tt; pairs = tt };
  many = omega arith;
  parents = parents_are;
  names = names_are;
  low = low_are;
}

pub schedule_is : (imprint : List ℕ) → IsSchedule (one_request imprint)
schedule_is imprint = record { plan = plan_is; events = ((omega arith, (omega arith, omega arith), tt), tt); few = omega arith }

pub waits_is : (image : List ℕ → List ℕ) (imprint : List ℕ) → IsWaiting three_cores (world_of image (one_request imprint)) 0 1 0 (asked_once imprint)
unfolding happens first_world after round_request fresh_second fresh_vote
waits_is image imprint = record {
  accepted = refl;
  unanswered = refl;
  there = refl;
  above = (record { unanswered = refl; here_or_taken = inr (record { unclosed = refl; new = refl; room = refl }) }, (refl, inr (record { unsealed = refl; new = refl; room = refl })));
}

pub undecided_is : (image : List ℕ → List ℕ) (imprint : List ℕ) → IsUndecided three_cores (world_of image (one_request imprint)) 0 10 (1 ∷ 2 ∷ [])
unfolding happens first_world after round_request fresh_second fresh_vote
undecided_is image imprint = record {
  majority = record { distinct = (refl, (refl, tt)); vote = λ core is. or_right_of (eqb 0 core) (is_voter (1 ∷ 2 ∷ []) core) is; most = omega arith };
  unheld = refl;
  unvoted = λ k is. refl;
}
