use Rattle.std.proofs.Common.{◌≡◌, ℕ, List, take}
use Rattle.ksi_synod.specs.CorePlans.{voters_among}
use Rattle.ksi_synod.proofs.core_plan.CorePlan.voters_of.Given as goal

-- the pairs from k on are of later seconds
abbrev pub invariant-loop-k : goal.invariant-loop-k
invariant-loop-k l = (others : List ℕ) → voters_among others (take l.self-inside.count l.self-inside.voters) l.second ≡ voters_among others (take l.k l.self-inside.voters) l.second
