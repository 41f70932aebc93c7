-- The voters of a second are cores of the plan.
use Rattle.std.proofs.Common.{ℕ, zero, suc, ◌<◌, ◌≤◌, leb, cond, List, [], ◌∷◌, ◌++◌, length, arith}
use Rattle.std.specs.List.{AllByRecursion}
use Rattle.std.proofs.lemmas.Bool.{cond_both}
use Rattle.ksi_synod.specs.Voters.{cores_below}
use Rattle.ksi_synod.specs.declared.core_plan.VotersFrom.{VotersFrom}
use Rattle.ksi_synod.specs.CorePlans.{CorePlanState, AreVoters, IsPair, IsCorePlan, voters_among, voters_of}

-- the law of voters
abbrev pub VotersAreFew : Type 0
VotersAreFew = (cores : ℕ) (voters : List ℕ) → AreVoters cores voters → length voters ≤ cores

abbrev pub VotersAreThere : Type 0
VotersAreThere = (plan : CorePlanState) (second : ℕ) → IsCorePlan plan → AreVoters plan.cores (voters_of plan second)

-- each is a core
abbrev pub AreCoresOf : (cores : ℕ) → List ℕ → Type 0
AreCoresOf cores voters = AllByRecursion (λ core. core < cores) voters

both_of : (cores : ℕ) (one other : List ℕ) → AreCoresOf cores one → AreCoresOf cores other → AreCoresOf cores (one ++ other)
both_of cores [] other here there = there
both_of cores (x ∷ xs) other here there = (here.0, both_of cores xs other here.1 there)

pub below_of : (cores n : ℕ) → n ≤ cores → AreCoresOf cores (cores_below n)
below_of cores zero few = tt
below_of cores (suc n) few = both_of cores (cores_below n) (n ∷ []) (below_of cores n (omega arith)) (omega arith, tt)

among_of : (cores start : ℕ) (others : List ℕ) (pairs : List VotersFrom) (second : ℕ) → AreCoresOf cores others → AllByRecursion (IsPair cores start) pairs → AreCoresOf cores (voters_among others pairs second)
among_of cores start others [] second here are = here
among_of cores start others (pair ∷ pairs) second here are =
    among_of cores start (cond (leb pair.second second) pair.voters others) pairs second
    (cond_both (leb pair.second second) pair.voters others (AreCoresOf cores) (λ _. are.0.voters.there) (λ _. here)) are.1

pub voters_of-there : (plan : CorePlanState) (second : ℕ) → IsCorePlan plan → AreCoresOf plan.cores (voters_of plan second)
voters_of-there plan second is = among_of plan.cores plan.start (cores_below plan.cores) plan.voters second (below_of plan.cores plan.cores (omega arith)) is.pairs
