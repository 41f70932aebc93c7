-- What is used of a plan.
use Rattle.ksi_schedule.specs.Plans.{core_plan_of}
use Rattle.std.proofs.Common.{◌≡◌, ℕ, ◌<◌, true, eqb, List, [], ◌∷◌, arith, inl, inr}
use Rattle.std.specs.List.{AllByRecursion}
use Rattle.std.proofs.lemmas.Bool.{eqb-true, false≢true, or_cases}
use Rattle.ksi_synod.specs.Voters.{is_voter}
use Rattle.ksi_synod.specs.CorePlans.{CorePlanState, AreVoters, IsCorePlan, voters_of}
use Rattle.ksi_schedule.specs.Plans.{PlanState, IsPlan}

-- the law of voters
abbrev pub VotersAreThere : Type 0
VotersAreThere = (plan : CorePlanState) (second : ℕ) → IsCorePlan plan → AreVoters plan.cores (voters_of plan second)

-- its limits, and that the voters of each second are cores of it
pub record IsPlanned (plan : PlanState) : Type 0 where
  pub core_plan : IsCorePlan (core_plan_of plan)
  pub voters : (t : ℕ) → AreVoters plan.cores (voters_of (core_plan_of plan) t)

pub planned : VotersAreThere → (plan : PlanState) → IsPlan plan → IsPlanned plan
planned there plan is = record { core_plan = is.core_plan; voters = λ t. there (core_plan_of plan) t is.core_plan }

-- who votes is below a number that all voters are below
pub below_is : (n : ℕ) (voters : List ℕ) (y : ℕ) → AllByRecursion (λ core. core < n) voters → is_voter voters y ≡ true → y < n
below_is n [] y low e = absurd (false≢true e)
below_is n (x ∷ xs) y low e = elim (or_cases (eqb x y) (is_voter xs y) e) [
  | inl same ↦ let is = eqb-true x y same in omega (arith, is, low.0)
  | inr there ↦ below_is n xs y low.1 there
]
