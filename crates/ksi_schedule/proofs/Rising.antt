-- The cores of a line that says who votes: that they are there, and that they rise.
use Rattle.std.proofs.Common.{◌≡◌, ℕ, ◌+◌, ◌^◌, ◌<◌, ◌≤◌, Bool, true, false, cond, ◌&&◌, ltb, List, [], ◌∷◌, ◌++◌, length, Option, Some, None, Result, Ok, Err, refl, sym, ap, subst, ◌∙◌, arith, append_assoc, append-nil}
use Rattle.std.specs.List.{AllByRecursion, list_all}
use Rattle.std.specs.Prelude.{IfSome, IfOk}
use Rattle.std.proofs.lemmas.Bool.{ltb-true, lt-ltb}
use Rattle.std.proofs.lemmas.List.Folds.{list_all-append}
use Rattle.ksi_synod.specs.declared.core_plan.VotersFrom.{VotersFrom}
use Rattle.ksi_synod.specs.CorePlans.{CorePlanState, IsCorePlan, AreRising, AreVoters, has_room, with_voters}
use Rattle.ksi_schedule.specs.declared.fault.LineFault.{LineFault}
use Rattle.ksi_schedule.specs.declared.fault.LineFault.TheVariants.{Word, Header}
use Rattle.ksi_schedule.specs.Pieces.{Text}
use Rattle.ksi_schedule.specs.Plans.{PlanState, InRange, core_plan_of}
use Rattle.ksi_schedule.specs.Events.{History}
use Rattle.ksi_schedule.specs.Words.{second, core_actor, value_at, ◌>>=◌}
use Rattle.ksi_schedule.specs.Members.{name_cores, cores_at, members_at, rises, with_members, next_members, with_core, rising_from, second_and_cores, taken_members, if_rising, rising_at, AreSaid, next_risen, next_rising}
use Rattle.ksi_schedule.proofs.Holding.{same, bind_ok, both, value_holds}

-- a plan of cores grows within its limits
abbrev pub Grows : Type 0
Grows = (plan : CorePlanState) (second : ℕ) (voters : List ℕ) → IsCorePlan plan → has_room plan second ≡ true
    → plan.start ≤ second → second < plan.start + 2 ^ 24 → AreVoters plan.cores voters → IsCorePlan (with_voters plan second voters)

abbrev pub AreBelow : ℕ → List ℕ → Type 0
AreBelow n xs = AllByRecursion (λ x. x < n) xs

above-from_test : (n : ℕ) (xs : List ℕ) → list_all (λ x. ltb n x) xs ≡ true → AllByRecursion (λ x. n < x) xs
above-from_test n [] all = tt
above-from_test n (x ∷ xs) all = let o = both (ltb n x) (list_all (λ x. ltb n x) xs) all in (ltb-true _ _ o.0, above-from_test n xs o.1)

pub below-from_test : (n : ℕ) (xs : List ℕ) → list_all (λ x. ltb x n) xs ≡ true → AreBelow n xs
below-from_test n [] all = tt
below-from_test n (x ∷ xs) all = let o = both (ltb x n) (list_all (λ x. ltb x n) xs) all in (ltb-true _ _ o.0, below-from_test n xs o.1)

rising-from_test : (xs : List ℕ) → rises xs ≡ true → AreRising xs
rising-from_test [] is = tt
rising-from_test (x ∷ xs) is = let o = both (list_all (λ y. ltb x y) xs) (rises xs) is in (above-from_test x xs o.0, rising-from_test xs o.1)

above-test : (n : ℕ) (xs : List ℕ) → AllByRecursion (λ x. n < x) xs → list_all (λ x. ltb n x) xs ≡ true
above-test n [] all = refl
above-test n (x ∷ xs) all = ap (λ b. b && list_all (λ x. ltb n x) xs) (lt-ltb n x all.0) ∙ above-test n xs all.1

pub rising-test : (xs : List ℕ) → AreRising xs → rises xs ≡ true
rising-test [] rise = refl
rising-test (x ∷ xs) rise = ap (λ b. b && rises xs) (above-test x xs rise.0) ∙ rising-test xs rise.1

-- ---- they are there

pub record AreCores (plan : PlanState) (ws : List Text) (js : List ℕ) : Type 0 where
  pub there : AreBelow plan.cores js
  pub count : length js ≡ length ws

cores_hold : (plan : PlanState) (ws : List Text) (js : List ℕ) → cores_at plan ws ≡ Ok js → AreCores plan ws js
cores_hold plan [] js is = subst (AreCores plan []) (same [] js is) (record { there = tt; count = refl })
cores_hold plan (word ∷ ws) js is =
    let first = bind_ok (value_at plan core_actor word) (λ j. cores_at plan ws >>= λ js. Ok (j ∷ js)) js is in
    let rest = bind_ok (cores_at plan ws) (λ js. Ok (first.0 ∷ js)) js first.2 in
    let are = cores_hold plan ws rest.0 rest.1 in
    subst (AreCores plan (word ∷ ws)) (same (first.0 ∷ rest.0) js rest.2)
    (record { there = (value_holds plan core_actor word first.0 first.1, are.there); count = omega (arith, are.count) })

pub record AreNamed (plan : PlanState) (pair : VotersFrom) : Type 0 where
  pub in_range : InRange plan pair.second
  pub some : 0 < length pair.voters
  pub there : AreBelow plan.cores pair.voters

some_words : (ws : List Text) → name_cores ws ≡ true → 0 < length ws
some_words [] is = absurd cc
some_words (w ∷ ws) is = omega arith

members_hold : (plan : PlanState) (ws : List Text) (pair : VotersFrom) → members_at plan ws ≡ Ok pair → AreNamed plan pair
unfolding members_at
members_hold plan [] pair is = absurd cc
members_hold plan (word ∷ ws) pair is = by_form (name_cores ws) refl is
  where
    by_form : (b : Bool) → name_cores ws ≡ b → cond b (value_at plan second word >>= λ t. cores_at plan ws >>= λ js. Ok (record { second = t; voters = js })) (Err Word) ≡ Ok pair → AreNamed plan pair
    by_form false form is = absurd cc
    by_form true form is =
        let t = bind_ok (value_at plan second word) (λ t. cores_at plan ws >>= λ js. Ok (record { second = t; voters = js })) pair is in
        let js = bind_ok (cores_at plan ws) (λ js. Ok (record { second = t.0; voters = js })) pair t.2 in
        let are = cores_hold plan ws js.0 js.1 in
        let some : 0 < length ws = some_words ws form in
        subst (AreNamed plan) (same (record { second = t.0; voters = js.0 }) pair js.2)
        (record { in_range = value_holds plan second word t.0 t.1; some = omega (arith, are.count); there = are.there })

pub members_second : (plan : PlanState) (ws : List Text) (pair : VotersFrom) → members_at plan ws ≡ Ok pair → InRange plan pair.second
members_second plan ws pair is = (members_hold plan ws pair is).in_range

pub voters_hold : (plan : PlanState) (ws : List Text) (pair : VotersFrom) → members_at plan ws ≡ Ok pair → rises pair.voters ≡ true → AreVoters plan.cores pair.voters
voters_hold plan ws pair is rise =
    let are = members_hold plan ws pair is in
    record { some = are.some; rising = rising-from_test pair.voters rise; there = are.there }

-- ---- the cores one by one

all_said : Option (List ℕ) → List ℕ → Option (List ℕ)
all_said o [] = o
all_said o (j ∷ js) = all_said (with_core o j) js

one_by_one : (plan : PlanState) (o : Option (List ℕ)) (ws : List Text) → rising_from plan o ws ≡ (cores_at plan ws >>= λ js. Ok (all_said o js))
unfolding all_said
one_by_one plan o [] = refl
one_by_one plan o (word ∷ ws) = by_value (value_at plan core_actor word) (λ j. one_by_one plan (with_core o j) ws)
  where
    by_cores : (j : ℕ) (r : Result (List ℕ) LineFault) → (r >>= λ js. Ok (all_said (with_core o j) js)) ≡ ((r >>= λ js. Ok (j ∷ js)) >>= λ js. Ok (all_said o js))
    by_cores j (Ok js) = refl
    by_cores j (Err fault) = refl

    by_value : (r : Result ℕ LineFault) → ((j : ℕ) → rising_from plan (with_core o j) ws ≡ (cores_at plan ws >>= λ js. Ok (all_said (with_core o j) js)))
        → (r >>= λ j. rising_from plan (with_core o j) ws) ≡ ((r >>= λ j. cores_at plan ws >>= λ js. Ok (j ∷ js)) >>= λ js. Ok (all_said o js))
    by_value (Ok j) rest = rest j ∙ by_cores j (cores_at plan ws)
    by_value (Err fault) rest = refl

none_said : (js : List ℕ) → all_said None js ≡ None
unfolding all_said
none_said [] = refl
none_said (j ∷ js) = none_said js

and_false : (b : Bool) → (b && false) ≡ false
and_false true = refl
and_false false = refl

-- a core that is not above all those before it
not_rising : (vs : List ℕ) (j : ℕ) (js : List ℕ) → list_all (λ v. ltb v j) vs ≡ false → rises (vs ++ j ∷ js) ≡ false
not_rising [] j js not = absurd cc
not_rising (v ∷ vs) j js not = by_first (ltb v j) refl not (not_rising vs j js)
  where
    by_first : (b : Bool) → ltb v j ≡ b → (b && list_all (λ v. ltb v j) vs) ≡ false → (list_all (λ v. ltb v j) vs ≡ false → rises (vs ++ j ∷ js) ≡ false) → rises ((v ∷ vs) ++ j ∷ js) ≡ false
    by_first true is not rest = ap (λ b. list_all (λ y. ltb v y) (vs ++ j ∷ js) && b) (rest not) ∙ and_false (list_all (λ y. ltb v y) (vs ++ j ∷ js))
    by_first false is not rest =
        ap (λ b. b && rises (vs ++ j ∷ js)) (list_all-append (λ y. ltb v y) vs (j ∷ js) ∙ ap (λ b. list_all (λ y. ltb v y) vs && (b && list_all (λ y. ltb v y) js)) is ∙ and_false (list_all (λ y. ltb v y) vs))

still_rising : (vs : List ℕ) (j : ℕ) → rises vs ≡ true → list_all (λ v. ltb v j) vs ≡ true → rises (vs ++ j ∷ []) ≡ true
still_rising [] j rise all = refl
still_rising (v ∷ vs) j rise all =
    let o = both (list_all (λ y. ltb v y) vs) (rises vs) rise in
    let a = both (ltb v j) (list_all (λ v. ltb v j) vs) all in
    ap (λ b. b && rises (vs ++ j ∷ [])) (list_all-append (λ y. ltb v y) vs (j ∷ []) ∙ ap (λ b. b && (ltb v j && true)) o.0 ∙ ap (λ b. b && true) a.0) ∙ still_rising vs j o.1 a.1

said_rising : (vs js : List ℕ) → rises vs ≡ true → all_said (Some vs) js ≡ if_rising (vs ++ js)
unfolding all_said
said_rising vs [] rise = ap (λ b. cond b (Some vs) None) (sym rise) ∙ ap if_rising (sym (append-nil vs))
said_rising vs (j ∷ js) rise = by_test (list_all (λ v. ltb v j) vs) refl (said_rising (vs ++ j ∷ []) js)
  where
    by_test : (b : Bool) → list_all (λ v. ltb v j) vs ≡ b → (rises (vs ++ j ∷ []) ≡ true → all_said (Some (vs ++ j ∷ [])) js ≡ if_rising ((vs ++ j ∷ []) ++ js)) → all_said (cond b (Some (vs ++ j ∷ [])) None) js ≡ if_rising (vs ++ j ∷ js)
    by_test true all rest = rest (still_rising vs j rise all) ∙ ap if_rising (append_assoc vs (j ∷ []) js)
    by_test false not rest = none_said js ∙ ap (λ b. cond b (Some (vs ++ j ∷ js)) None) (sym (not_rising vs j js not))

pub rising_is : (plan : PlanState) (ws : List Text) → rising_from plan (Some []) ws ≡ (cores_at plan ws >>= λ js. Ok (if_rising js))
rising_is plan ws = one_by_one plan (Some []) ws ∙ by_cores (cores_at plan ws)
  where
    by_cores : (r : Result (List ℕ) LineFault) → (r >>= λ js. Ok (all_said (Some []) js)) ≡ (r >>= λ js. Ok (if_rising js))
    by_cores (Ok js) = ap (λ (o : Option (List ℕ)). let r : Result (Option (List ℕ)) LineFault = Ok o in r) (said_rising [] js refl)
    by_cores (Err fault) = refl

-- ---- in the code

pub no_members : (plan : PlanState) (ws : List Text) → ws ≡ [] → Err Word ≡ rising_at plan ws
unfolding members_at
no_members plan ws is = rw is refl

pub no_cores : (plan : PlanState) (word : Text) (ws all : List Text) → all ≡ word ∷ ws → name_cores ws ≡ false → Err Word ≡ rising_at plan all
unfolding members_at
no_cores plan word ws all is not = rw (is, not) refl

pub members_read : (plan : PlanState) (word : Text) (ws all : List Text) → all ≡ word ∷ ws → name_cores ws ≡ true → second_and_cores plan word ws ≡ rising_at plan all
unfolding members_at
members_read plan word ws all is form = rw (is, form) (by_second (value_at plan second word))
  where
    pair_of : ℕ → List ℕ → Result VotersFrom LineFault
    pair_of t js = Ok (record { second = t; voters = js })

    risen_of : VotersFrom → Result (ℕ × Option (List ℕ)) LineFault
    risen_of pair = Ok (pair.second, if_rising pair.voters)

    cores_of : ℕ → Option (List ℕ) → Result (ℕ × Option (List ℕ)) LineFault
    cores_of t cores = Ok (t, cores)

    by_cores : (t : ℕ) (r : Result (List ℕ) LineFault) → ((r >>= λ js. Ok (if_rising js)) >>= cores_of t) ≡ ((r >>= pair_of t) >>= risen_of)
    by_cores t (Ok js) = refl
    by_cores t (Err fault) = refl

    by_second : (r : Result ℕ LineFault) → (r >>= λ t. rising_from plan (Some []) ws >>= cores_of t) ≡ ((r >>= λ t. cores_at plan ws >>= pair_of t) >>= risen_of)
    by_second (Ok t) = ap (λ (r : Result (Option (List ℕ)) LineFault). r >>= cores_of t) (rising_is plan ws) ∙ by_cores t (cores_at plan ws)
    by_second (Err fault) = refl

said_holds : (plan : PlanState) (ws : List Text) (pair : VotersFrom) → members_at plan ws ≡ Ok pair → AreSaid plan (pair.second, if_rising pair.voters)
said_holds plan ws pair is = (members_second plan ws pair is, by_test (rises pair.voters) refl)
  where
    by_test : (b : Bool) → rises pair.voters ≡ b → IfSome (cond b (Some pair.voters) None) (AreVoters plan.cores)
    by_test true rise = voters_hold plan ws pair is rise
    by_test false not = tt

pub said_hold : (plan : PlanState) (ws : List Text) (r : Result (ℕ × Option (List ℕ)) LineFault) → r ≡ rising_at plan ws → IfOk r (AreSaid plan)
said_hold plan ws r is = subst (λ (r : Result (ℕ × Option (List ℕ)) LineFault). IfOk r (AreSaid plan)) (sym is) (by_members (members_at plan ws) refl)
  where
    by_members : (m : Result VotersFrom LineFault) → members_at plan ws ≡ m → IfOk (m >>= λ pair. Ok (pair.second, if_rising pair.voters)) (AreSaid plan)
    by_members (Ok pair) said = said_holds plan ws pair said
    by_members (Err fault) said = tt

next_is : (h : History) (pair : VotersFrom) → next_members h pair ≡ next_rising h (pair.second, if_rising pair.voters)
unfolding next_members
next_is h pair = by_tests (has_room (core_plan_of h.plan) pair.second) (rises pair.voters) ∙ by_option (if_rising pair.voters)
  where
    risen : Bool → Option (List ℕ) → Result History LineFault
    risen room None = Err Header
    risen room (Some voters) = cond room (Ok (record { plan = with_members h.plan (record { second = pair.second; voters = voters }); events = h.events })) (Err Header)

    by_tests : (room rise : Bool) → cond (room && rise) (Ok (record { plan = with_members h.plan pair; events = h.events })) (Err Header) ≡ risen room (cond rise (Some pair.voters) None)
    by_tests true true = refl
    by_tests true false = refl
    by_tests false true = refl
    by_tests false false = refl

    by_option : (o : Option (List ℕ)) → risen (has_room (core_plan_of h.plan) pair.second) o ≡ next_risen h pair.second o
    by_option None = refl
    by_option (Some voters) = refl

-- what a line adds, by what is said of it
pub next_said : (h : History) (ws : List Text) → taken_members h ws ≡ (rising_at h.plan ws >>= next_rising h)
next_said h ws = by_members (members_at h.plan ws)
  where
    by_members : (m : Result VotersFrom LineFault) → (m >>= next_members h) ≡ ((m >>= λ pair. Ok (pair.second, if_rising pair.voters)) >>= next_rising h)
    by_members (Ok pair) = next_is h pair
    by_members (Err fault) = refl
