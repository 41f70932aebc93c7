-- The lines that say from which second on which cores vote.
use Rattle.std.specs.Prelude.{ℕ, List, [], ◌∷◌, ◌++◌, codes, Bool, true, false, ◌&&◌, nat_lt, Option, Some, None, IfSome, Result, Ok, Err, if◌then◌else◌}
use Rattle.std.specs.List.{list_all}
use Rattle.ksi_synod.specs.declared.core_plan.VotersFrom.{VotersFrom}
use Rattle.ksi_synod.specs.CorePlans.{has_room, AreVoters}
use Rattle.ksi_schedule.specs.Pieces.{Text}
use Rattle.ksi_schedule.specs.Plans.{PlanState, core_plan_of, InRange}
use Rattle.ksi_schedule.specs.Events.{History}
use Rattle.ksi_schedule.specs.Words.{second, core_actor, looks_like, value_at, ◌>>=◌}
use Rattle.ksi_schedule.specs.declared.fault.LineFault.{LineFault}
use Rattle.ksi_schedule.specs.declared.fault.LineFault.TheVariants.{Word, Header}

-- the first word of such a line
abbrev pub members_name : Text
members_name = codes "members"

-- one or more words, each of the form of a core's
abbrev pub name_cores : List Text → Bool
name_cores [] = false
name_cores (word ∷ words) = list_all (looks_like core_actor) (word ∷ words)

-- the cores that such words name, or the first fault from the left
abbrev pub cores_at : PlanState → List Text → Result (List ℕ) LineFault
cores_at plan [] = Ok []
cores_at plan (word ∷ words) = value_at plan core_actor word >>= λ j. cores_at plan words >>= λ js. Ok (j ∷ js)

-- the meaning of the words after the first: a second and cores; or the first fault from the left
unfoldable pub members_at : PlanState → List Text → Result VotersFrom LineFault
members_at plan [] = Err Word
members_at plan (word ∷ words) =
    if name_cores words
    then (value_at plan second word >>= λ t. cores_at plan words >>= λ js. Ok (record { second = t; voters = js }))
    else Err Word

-- whether each is below all those after it
abbrev pub rises : List ℕ → Bool
rises [] = true
rises (x ∷ xs) = list_all (λ y. nat_lt x y) xs && rises xs

abbrev pub with_members : PlanState → VotersFrom → PlanState
with_members plan pair = record { cores = plan.cores; start = plan.start; voters = plan.voters ++ pair ∷ []; parents = plan.parents }

-- one such line more: its cores rise, its second is above those before, and there are at most 256 of them
unfoldable pub next_members : History → VotersFrom → Result History LineFault
next_members h pair =
    if has_room (core_plan_of h.plan) pair.second && rises pair.voters
    then Ok (record { plan = with_members h.plan pair; events = h.events }) else Err Header

-- ---- in the code

-- the cores so far, while they rise, and one more
abbrev pub with_core : Option (List ℕ) → ℕ → Option (List ℕ)
with_core None core = None
with_core (Some cores) core = if list_all (λ other. nat_lt other core) cores then Some (cores ++ core ∷ []) else None

-- the cores so far and those of the words, where they rise
abbrev pub rising_from : PlanState → Option (List ℕ) → List Text → Result (Option (List ℕ)) LineFault
rising_from plan cores [] = Ok cores
rising_from plan cores (word ∷ words) = value_at plan core_actor word >>= λ j. rising_from plan (with_core cores j) words

abbrev pub second_and_cores : PlanState → Text → List Text → Result (ℕ × Option (List ℕ)) LineFault
second_and_cores plan word words = value_at plan second word >>= λ t. rising_from plan (Some []) words >>= λ cores. Ok (t, cores)

abbrev pub taken_members : History → List Text → Result History LineFault
taken_members h words = members_at h.plan words >>= next_members h

abbrev pub if_rising : List ℕ → Option (List ℕ)
if_rising cores = if rises cores then Some cores else None

-- the meaning of such a line, if its cores rise
abbrev pub rising_at : PlanState → List Text → Result (ℕ × Option (List ℕ)) LineFault
rising_at plan words = members_at plan words >>= λ pair. Ok (pair.second, if_rising pair.voters)

-- the second is the plan's, and the cores are voters
abbrev pub AreSaid : PlanState → ℕ × Option (List ℕ) → Type 0
AreSaid plan said = InRange plan said.0 × IfSome said.1 (AreVoters plan.cores)

abbrev pub next_risen : History → ℕ → Option (List ℕ) → Result History LineFault
next_risen h t None = Err Header
next_risen h t (Some voters) =
    if has_room (core_plan_of h.plan) t
    then Ok (record { plan = with_members h.plan (record { second = t; voters = voters }); events = h.events }) else Err Header

abbrev pub next_rising : History → ℕ × Option (List ℕ) → Result History LineFault
next_rising h said = next_risen h said.0 said.1
