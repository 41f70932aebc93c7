-- The meaning of the fields of a CorePlan: an array starts with its pairs, and the rest is padding (pairs without voters).
use Rattle.std.proofs.Common.{◌≡◌, ℕ, zero, suc, List, [], ◌∷◌, length, take, sym, ap, ◌∙◌}
use Rattle.ksi_synod.specs.declared.core_plan.VotersFrom.{VotersFrom}
use Rattle.ksi_synod.specs.declared.core_plan.CorePlan.TheInside.{Inside}
use Rattle.ksi_synod.specs.CorePlans.{CorePlanState, IsCorePlan}

abbrev pub no_pair : VotersFrom
no_pair = record { second = 0; voters = [] }

-- the pairs, padded to n with pairs without voters
unfoldable pub padded : (room : ℕ) → List VotersFrom → List VotersFrom
padded zero pairs = pairs
padded (suc room) [] = no_pair ∷ padded room []
padded (suc room) (pair ∷ pairs) = pair ∷ padded room pairs

abbrev pub plan_of : Inside → CorePlanState
plan_of a = record { cores = a.cores; start = a.start; voters = take a.count a.voters }

pub record IsFilled (a : Inside) : Type 0 where
  pub plan : IsCorePlan (plan_of a)
  pub count : length (take a.count a.voters) ≡ a.count
  pub padded : a.voters ≡ padded 256 (take a.count a.voters)

-- the fields of a plan
abbrev pub fields_of : CorePlanState → Inside
fields_of plan = record { cores = plan.cores; start = plan.start; count = length plan.voters; voters = padded 256 plan.voters }

pub fields_of-plan_of : (a : Inside) → IsFilled a → fields_of (plan_of a) ≡ a
fields_of-plan_of a is =
    let with_count : ℕ → Inside = λ n. record { cores = a.cores; start = a.start; count = n; voters = padded 256 (take a.count a.voters) } in
    let with_pairs : List VotersFrom → Inside = λ pairs. record { cores = a.cores; start = a.start; count = a.count; voters = pairs } in
    ap with_count is.count ∙ ap with_pairs (sym is.padded)
