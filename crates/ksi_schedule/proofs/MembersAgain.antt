-- The printed lines that say who votes are read again.
use Rattle.std.proofs.Common.{◌≡◌, ℕ, ◌<◌, true, ◌&&◌, ltb, List, [], ◌∷◌, ◌++◌, length, map, codes, Ok, refl, ap, ◌∙◌, arith, length-append}
use Rattle.std.specs.Fmt.{decimal}
use Rattle.std.specs.List.{AllByRecursion, list_all}
use Rattle.std.proofs.lemmas.Bool.{lt-ltb}
use Rattle.ksi_synod.specs.declared.core_plan.VotersFrom.{VotersFrom}
use Rattle.ksi_synod.specs.CorePlans.{IsPair, IsCorePlan, AreRising, has_room}
use Rattle.ksi_schedule.specs.declared.version.Version.TheVariants.{Two}
use Rattle.ksi_schedule.specs.Plans.{PlanState, core_plan_of}
use Rattle.ksi_schedule.specs.Events.{History}
use Rattle.ksi_schedule.specs.Words.{core_actor, looks_like}
use Rattle.ksi_schedule.specs.Members.{name_cores, cores_at, members_at, rises, next_members}
use Rattle.ksi_schedule.specs.Lines.{next_in}
use Rattle.ksi_schedule.specs.Printed.{core_word, members_words}
use Rattle.ksi_schedule.proofs.Again.{IsClean, plain, lettered}
use Rattle.ksi_schedule.proofs.EventAgain.{IsSmall, core_again, second_again, core-clean, second-clean}
use Rattle.ksi_schedule.proofs.Rising.{AreBelow, rising-test}

-- what the first pairs of a plan say, before its aggregators
abbrev pub voting : PlanState → List VotersFrom → History
voting plan pairs = record { plan = record { cores = plan.cores; start = plan.start; voters = pairs; parents = [] }; events = [] }

cores_again : (plan : PlanState) (js : List ℕ) → IsSmall plan → AreBelow plan.cores js → cores_at plan (map core_word js) ≡ Ok js
cores_again plan [] small low = refl
cores_again plan (j ∷ js) small low = rw (core_again plan j small low.0, cores_again plan js small low.1) refl

of_cores : (js : List ℕ) → list_all (looks_like core_actor) (map core_word js) ≡ true
of_cores [] = refl
of_cores (j ∷ js) = of_cores js

names_again : (js : List ℕ) → 0 < length js → name_cores (map core_word js) ≡ true
names_again [] some = absurd (omega arith)
names_again (j ∷ js) some = of_cores js

members_again : (plan : PlanState) (pair : VotersFrom) → IsSmall plan → IsPair plan.cores plan.start pair → members_at plan (decimal pair.second ∷ map core_word pair.voters) ≡ Ok pair
unfolding members_at
members_again plan pair small is =
    rw (names_again pair.voters is.voters.some, second_again plan pair.second small (is.early, is.late), cores_again plan pair.voters small is.voters.there) refl

-- ---- clean words

cores-clean : (plan : PlanState) (js : List ℕ) → IsSmall plan → AreBelow plan.cores js → IsClean (map core_word js)
cores-clean plan [] small low = tt
cores-clean plan (j ∷ js) small low = let word = lettered 99 (decimal j) refl (core-clean plan j small low.0) in (word.0, word.1, cores-clean plan js small low.1)

pub members-clean : (plan : PlanState) (pair : VotersFrom) → IsSmall plan → IsPair plan.cores plan.start pair → IsClean (members_words pair)
members-clean plan pair small is =
    let name = plain (codes "members") refl in
    let t = second-clean plan pair.second small (is.early, is.late) in
    (name.0, name.1, (t.0, t.1, cores-clean plan pair.voters small is.voters.there))

-- ---- room

all_middle : {A : Type 0} (P : A → Type 0) (before rest : List A) (x : A) → AllByRecursion P (before ++ x ∷ rest) → P x
all_middle P [] rest x all = all.0
all_middle P (b ∷ before) rest x all = all_middle P before rest x all.1

later_than : (n : ℕ) (before rest : List VotersFrom) (pair : VotersFrom) → AllByRecursion (λ y. n < y) (map (λ p. p.second) (before ++ pair ∷ rest)) → n < pair.second
later_than n [] rest pair all = all.0
later_than n (p ∷ before) rest pair all = later_than n before rest pair all.1

rising_before : (before rest : List VotersFrom) (pair : VotersFrom) → AreRising (map (λ p. p.second) (before ++ pair ∷ rest)) → list_all (λ p. ltb p.second pair.second) before ≡ true
rising_before [] rest pair rise = refl
rising_before (p ∷ before) rest pair rise =
    ap (λ b. b && list_all (λ p. ltb p.second pair.second) before) (lt-ltb p.second pair.second (later_than p.second before rest pair rise.0)) ∙ rising_before before rest pair rise.1

abbrev IsCorePlanOf : PlanState → List VotersFrom → Type 0
IsCorePlanOf plan pairs = IsCorePlan (record { cores = plan.cores; start = plan.start; voters = pairs })

room_again : (plan : PlanState) (before rest : List VotersFrom) (pair : VotersFrom) → IsCorePlanOf plan (before ++ pair ∷ rest) → has_room (core_plan_of (voting plan before).plan) pair.second ≡ true
room_again plan before rest pair is =
    let few : length before < 256 = omega (arith, is.many, length-append before (pair ∷ rest)) in
    ap (λ b. b && list_all (λ p. ltb p.second pair.second) before) (lt-ltb (length before) 256 few) ∙ rising_before before rest pair is.rising

-- ---- one line more

pub pair_there : (plan : PlanState) (before rest : List VotersFrom) (pair : VotersFrom) → IsCorePlanOf plan (before ++ pair ∷ rest) → IsPair plan.cores plan.start pair
pair_there plan before rest pair is = all_middle (IsPair plan.cores plan.start) before rest pair is.pairs

step_again : (plan : PlanState) (before : List VotersFrom) (pair : VotersFrom) → members_at (voting plan before).plan (decimal pair.second ∷ map core_word pair.voters) ≡ Ok pair
    → has_room (core_plan_of (voting plan before).plan) pair.second ≡ true → rises pair.voters ≡ true → next_in Two (voting plan before) (members_words pair) ≡ Ok (voting plan (before ++ pair ∷ []))
unfolding next_in next_members
step_again plan before pair said room rise = rw (said, room, rise) refl

pub members_next : (plan : PlanState) (before rest : List VotersFrom) (pair : VotersFrom) → IsSmall (voting plan before).plan → IsCorePlanOf plan (before ++ pair ∷ rest)
    → next_in Two (voting plan before) (members_words pair) ≡ Ok (voting plan (before ++ pair ∷ []))
members_next plan before rest pair small is =
    let there : IsPair plan.cores plan.start pair = pair_there plan before rest pair is in
    step_again plan before pair (members_again (voting plan before).plan pair small there) (room_again plan before rest pair is) (rising-test pair.voters there.voters.rising)
