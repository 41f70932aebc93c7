-- The printed text of a schedule says it again.
use Rattle.std.proofs.Common.{◌≡◌, ℕ, ◌+◌, ◌-◌, ◌^◌, ◌<◌, ◌≤◌, true, false, get_or, List, [], ◌∷◌, ◌++◌, length, map, codes, Ok, refl, sym, ap, subst, ◌∙◌, arith, leb, append_assoc, append-nil, length-append}
use Rattle.std.specs.Fmt.{decimal}
use Rattle.std.specs.List.{AllByRecursion}
use Rattle.std.specs.Str.{bytes_eq}
use Rattle.std.proofs.Math.Seq.{get_or-append_seam}
use Rattle.std.proofs.lemmas.List.{get_or_append_left}
use Rattle.std.proofs.lemmas.Bool.{lt-ltb, le-leb, lt-leb, eq-eqb}
use Rattle.std.specs.Prelude.{IfSome}
use Rattle.ksi_aggtree.specs.Names.{IsName}
use Rattle.ksi_schedule.specs.declared.parent.Parent.{Parent}
use Rattle.ksi_schedule.specs.declared.event.Event.{Event}
use Rattle.ksi_schedule.specs.declared.event.Event.TheVariants as events
use Rattle.ksi_schedule.specs.Pieces.{Text, lines, words}
use Rattle.ksi_schedule.specs.Plans.{PlanState, IsPlan, IsParent, ReachesCore, no_parent, parent_of}
use Rattle.ksi_schedule.specs.Events.{History, IsEvent, AreEvents, with_event}
use Rattle.ksi_schedule.specs.Schedules.{IsSchedule}
use Rattle.ksi_schedule.specs.Forms.{event_kinds}
use Rattle.ksi_synod.specs.declared.core_plan.VotersFrom.{VotersFrom}
use Rattle.ksi_synod.specs.CorePlans.{IsCorePlan}
use Rattle.ksi_schedule.specs.declared.version.Version.{Version}
use Rattle.ksi_schedule.specs.declared.version.Version.TheVariants.{One, Two}
use Rattle.ksi_schedule.specs.Lines.{Said, nothing, title, cores, history, bare, reaches_core, next_parent, next_in, number_in, with_line}
use Rattle.ksi_schedule.specs.Spelled.{Says, IsScheduleText}
use Rattle.ksi_schedule.specs.Printed.{core_word, members_words, version_of, version_word, event_words, actor_word, under_words, parent_words, line_of, text_of_lines, schedule_text, IsTyped}
use Rattle.ksi_schedule.proofs.Next.{Agree, begun, parent_there, reaching, same_way, weaker}
use Rattle.ksi_schedule.proofs.Again.{IsClean, words-line_of, lines-text, number_again, number-clean, plain, two}
use Rattle.ksi_schedule.proofs.MembersAgain.{voting, members-clean, pair_there, members_next}
use Rattle.ksi_schedule.proofs.EventAgain.{IsSmall, line_at, event_again, parent_again, aggregator-clean, event-clean}
use Rattle.ksi_schedule.proofs.Versions.{Allows, AllowsEvent, AllowsPairs, IsAllowed, version_allows}

-- a text whose lines say something, behind one line more
one_line : (a b d : Said) (ws : List Text) (others : List (List Text)) → IsClean ws → with_line a (line_of ws) ≡ Ok b → Says b (lines (text_of_lines others)) d → Says a (lines (text_of_lines (ws ∷ others))) d
one_line a b d ws others clean is says = subst (λ (ls : List Text). Says a ls d) (sym (lines-text ws others clean)) (b, is, says)

next_line : (version : Version) (h next : History) (line : Text) → next_in version h (words line) ≡ Ok next → with_line (history version h) line ≡ Ok (history version next)
unfolding with_line
next_line version h next line is = rw is refl

-- ---- events

next_event : (version : Version) (h : History) (name : Text) (ws : List Text) (e : Event) → leb 1000000 (length h.events) ≡ false → bytes_eq name (codes "aggregator") ≡ false → bytes_eq name (codes "members") ≡ false → IsClean (name ∷ ws) → line_at h.plan (event_kinds version) (name ∷ ws) ≡ Ok e
    → with_line (history version h) (line_of (name ∷ ws)) ≡ Ok (history version (with_event h e))
unfolding with_line next_in
next_event version h name ws e room other quiet clean is = rw (words-line_of name ws clean, room, other, quiet, is) refl

event_line : (version : Version) (h : History) (e : Event) → IsSmall h.plan → length h.events < 1000000 → IsEvent h.plan e → IsTyped e → AllowsEvent version e → with_line (history version h) (line_of (event_words e)) ≡ Ok (history version (with_event h e))
event_line version h e small lt is typed allowed = by_event e (lt-leb _ _ lt) (event-clean h.plan e small is typed) (event_again version h.plan e small is typed allowed)
  where
    by_event : (e : Event) → leb 1000000 (length h.events) ≡ false → IsClean (event_words e) → line_at h.plan (event_kinds version) (event_words e) ≡ Ok e → with_line (history version h) (line_of (event_words e)) ≡ Ok (history version (with_event h e))
    by_event (events.Request k t imprint name) room clean again = next_event version h (codes "request") _ _ room refl refl clean again
    by_event (events.Close k t) room clean again = next_event version h (codes "close") _ _ room refl refl clean again
    by_event (events.Seal j t) room clean again = next_event version h (codes "seal") _ _ room refl refl clean again
    by_event (events.Ballot j t) room clean again = next_event version h (codes "ballot") _ _ room refl refl clean again
    by_event (events.Deliver number) room clean again = next_event version h (codes "deliver") _ _ room refl refl clean again
    by_event (events.Tell j t) room clean again = next_event version h (codes "tell") _ _ room refl refl clean again
    by_event (events.Respond j t) room clean again = next_event version h (codes "respond") _ _ room refl refl clean again
    by_event (events.Publish j p) room clean again = next_event version h (codes "publish") _ _ room refl refl clean again
    by_event (events.RestartCore j) room clean again = next_event version h (codes "restart") _ _ room refl refl clean again
    by_event (events.RestartAggregator k) room clean again = next_event version h (codes "restart") _ _ room refl refl clean again

abbrev with_events : History → List Event → History
with_events h es = record { plan = h.plan; events = h.events ++ es }

abbrev of_events : Version → PlanState → List Event → Said
of_events version plan es = history version (record { plan = plan; events = es })

events_again : (version : Version) (h : History) (es : List Event) → IsSmall h.plan → AreEvents h.plan es → AllByRecursion IsTyped es → AllByRecursion (AllowsEvent version) es → length h.events + length es ≤ 1000000
    → Says (history version h) (lines (text_of_lines (map event_words es))) (history version (with_events h es))
events_again version h [] small are typed allowed few = ap (of_events version h.plan) (sym (append-nil h.events))
events_again version h (e ∷ es) small are typed allowed few =
    let room : length h.events < 1000000 = omega arith in
    let next : length (with_event h e).events + length es ≤ 1000000 = omega (arith, length-append h.events (e ∷ [])) in
    let rest = events_again version (with_event h e) es small are.1 typed.1 allowed.1 next in
    one_line (history version h) (history version (with_event h e)) (history version (with_events h (e ∷ es))) (event_words e) (map event_words es) (event-clean h.plan e small are.0 typed.0) (event_line version h e small room are.0 typed.0 allowed.0)
    (subst (λ (all : List Event). Says (history version (with_event h e)) (lines (text_of_lines (map event_words es))) (of_events version h.plan all)) (append_assoc h.events (e ∷ []) es) rest)

-- ---- aggregators

abbrev tree : PlanState → List Parent → History
tree plan parents = record { plan = begun plan parents; events = [] }

abbrev aggregator_words : ℕ → Parent → List Text
aggregator_words k p = codes "aggregator" ∷ decimal k ∷ codes "parent" ∷ actor_word p.actor ∷ under_words p.name

parent_step : (version : Version) (plan : PlanState) (before : List Parent) (p : Parent) → IsSmall (begun plan before) → length before < 4096 → IsParent plan.cores (length before) p.actor → IfSome p.name IsName → Allows version p.name → reaches_core (begun plan before) 7 p.actor ≡ true
    → next_in version (tree plan before) (aggregator_words (length before) p) ≡ Ok (tree plan (before ++ p ∷ []))
unfolding next_in next_parent
parent_step version plan before p small room there named allowed low =
    rw (parent_again version (begun plan before) (length before) p small (omega arith) there named allowed, eq-eqb (length before) (length before) refl, lt-ltb _ _ room, low) refl

parent_line : (version : Version) (plan : PlanState) (before : List Parent) (p : Parent) → IsSmall (begun plan before) → IsClean (aggregator_words (length before) p) → length before < 4096 → IsParent plan.cores (length before) p.actor → IfSome p.name IsName → Allows version p.name → reaches_core (begun plan before) 7 p.actor ≡ true
    → with_line (history version (tree plan before)) (line_of (aggregator_words (length before) p)) ≡ Ok (history version (tree plan (before ++ p ∷ [])))
parent_line version plan before p small clean room there named allowed low =
    next_line version (tree plan before) (tree plan (before ++ p ∷ [])) (line_of (aggregator_words (length before) p))
    (ap (next_in version (tree plan before)) (words-line_of (codes "aggregator") (decimal (length before) ∷ codes "parent" ∷ actor_word p.actor ∷ under_words p.name) clean) ∙ parent_step version plan before p small room there named allowed low)

-- the first parents of a plan
agree_before : (plan : PlanState) (before ps : List Parent) → IsPlan (begun plan (before ++ ps)) → Agree (begun plan (before ++ ps)) (begun plan before) (length before)
agree_before plan before ps is = record {
  cores = refl;
  same = λ k lt. ap (λ (p : Parent). p.actor) (get_or_append_left before ps no_parent k lt);
  low = λ k lt. weaker plan.cores k (length before) (parent_of (begun plan (before ++ ps)) k) (omega arith) (parent_there (begun plan (before ++ ps)) k is (omega (arith, length-append before ps)));
}

seam : (plan : PlanState) (before ps : List Parent) (p : Parent) → get_or (before ++ p ∷ ps) (length before) no_parent ≡ p
seam plan before ps p = get_or-append_seam before p ps no_parent

fits_there : (plan : PlanState) (before ps : List Parent) (p : Parent) → IsPlan (begun plan (before ++ p ∷ ps)) → IsParent plan.cores (length before) p.actor
fits_there plan before ps p is =
    subst (λ (x : Parent). IsParent plan.cores (length before) x.actor) (seam plan before ps p) (parent_there (begun plan (before ++ p ∷ ps)) (length before) is (omega (arith, length-append before (p ∷ ps))))

low_there : (plan : PlanState) (before ps : List Parent) (p : Parent) → IsPlan (begun plan (before ++ p ∷ ps)) → ReachesCore (begun plan (before ++ p ∷ ps)) 7 p.actor
unfolding ReachesCore
low_there plan before ps p is =
    subst (λ (x : Parent). ReachesCore (begun plan (before ++ p ∷ ps)) 7 x.actor) (seam plan before ps p) (is.low (length before) (omega (arith, length-append before (p ∷ ps))))

named_there : (plan : PlanState) (before ps : List Parent) (p : Parent) → IsPlan (begun plan (before ++ p ∷ ps)) → IfSome p.name IsName
named_there plan before ps p is = subst (λ (x : Parent). IfSome x.name IsName) (seam plan before ps p) (is.names (length before))

parents_again : (version : Version) (plan : PlanState) (before ps : List Parent) (more : List (List Text)) (d : Said) → IsPlan (begun plan (before ++ ps)) → AllByRecursion (λ (p : Parent). Allows version p.name) ps
    → Says (history version (tree plan (before ++ ps))) (lines (text_of_lines more)) d
    → Says (history version (tree plan before)) (lines (text_of_lines (parent_words (length before) ps ++ more))) d
parents_again version plan before [] more d is allowed says = subst (λ (parents : List Parent). Says (history version (tree plan parents)) (lines (text_of_lines more)) d) (append-nil before) says
parents_again version plan before (p ∷ ps) more d is allowed says =
    let count : length before + 1 ≤ 4096 = omega (arith, is.many, length-append before (p ∷ ps)) in
    let small : IsSmall (begun plan before) = record { cores = is.core_plan.few; parents = omega arith; start = is.core_plan.early } in
    let there : IsParent plan.cores (length before) p.actor = fits_there plan before ps p is in
    let named : IfSome p.name IsName = named_there plan before ps p is in
    let low : reaches_core (begun plan before) 7 p.actor ≡ true =
    reaching (begun plan before) 7 p.actor (same_way (begun plan (before ++ p ∷ ps)) (begun plan before) (length before) 7 p.actor (agree_before plan before (p ∷ ps) is) there (low_there plan before ps p is)) in
    let clean : IsClean (aggregator_words (length before) p) =
    aggregator-clean (begun plan before) (length before) p small (omega arith) there named in
    let size : length (before ++ p ∷ []) ≡ length before + 1 = omega (arith, length-append before (p ∷ [])) in
    let whole : (before ++ p ∷ []) ++ ps ≡ before ++ (p ∷ ps) = append_assoc before (p ∷ []) ps in
    let rest = parents_again version plan (before ++ p ∷ []) ps more d (subst (λ (parents : List Parent). IsPlan (begun plan parents)) (sym whole) is) allowed.1
    (subst (λ (parents : List Parent). Says (history version (tree plan parents)) (lines (text_of_lines more)) d) (sym whole) says) in
    one_line (history version (tree plan before)) (history version (tree plan (before ++ p ∷ []))) d (aggregator_words (length before) p) (parent_words (length before + 1) ps ++ more) clean (parent_line version plan before p small clean (omega arith) there named allowed.0 low)
    (subst (λ (k : ℕ). Says (history version (tree plan (before ++ p ∷ []))) (lines (text_of_lines (parent_words k ps ++ more))) d) size rest)

-- ---- who votes

voters_again : (plan : PlanState) (before pairs : List VotersFrom) (more : List (List Text)) (d : Said) → IsCorePlan (record { cores = plan.cores; start = plan.start; voters = before ++ pairs })
    → Says (history Two (voting plan (before ++ pairs))) (lines (text_of_lines more)) d
    → Says (history Two (voting plan before)) (lines (text_of_lines (map members_words pairs ++ more))) d
voters_again plan before [] more d is says = subst (λ (pairs : List VotersFrom). Says (history Two (voting plan pairs)) (lines (text_of_lines more)) d) (append-nil before) says
voters_again plan before (pair ∷ pairs) more d is says =
    let small : IsSmall (voting plan before).plan = record { cores = is.few; parents = omega arith; start = is.early } in
    let clean : IsClean (members_words pair) = members-clean (voting plan before).plan pair small (pair_there plan before pairs pair is) in
    let whole : (before ++ pair ∷ []) ++ pairs ≡ before ++ (pair ∷ pairs) = append_assoc before (pair ∷ []) pairs in
    let rest = voters_again plan (before ++ pair ∷ []) pairs more d (subst (λ (pairs : List VotersFrom). IsCorePlan (record { cores = plan.cores; start = plan.start; voters = pairs })) (sym whole) is)
    (subst (λ (pairs : List VotersFrom). Says (history Two (voting plan pairs)) (lines (text_of_lines more)) d) (sym whole) says) in
    one_line (history Two (voting plan before)) (history Two (voting plan (before ++ pair ∷ []))) d (members_words pair) (map members_words pairs ++ more) clean
    (next_line Two (voting plan before) (voting plan (before ++ pair ∷ [])) (line_of (members_words pair))
    (ap (next_in Two (voting plan before)) (words-line_of (codes "members") (decimal pair.second ∷ map core_word pair.voters) clean) ∙ members_next plan before pairs pair small is))
    rest

said_again : (version : Version) (plan : PlanState) (pairs : List VotersFrom) (more : List (List Text)) (d : Said) → AllowsPairs version pairs → IsCorePlan (record { cores = plan.cores; start = plan.start; voters = pairs })
    → Says (history version (voting plan pairs)) (lines (text_of_lines more)) d
    → Says (history version (voting plan [])) (lines (text_of_lines (map members_words pairs ++ more))) d
said_again One plan [] more d allowed is says = says
said_again One plan (pair ∷ pairs) more d allowed is says = absurd allowed
said_again Two plan pairs more d allowed is says = voters_again plan [] pairs more d is says

-- ---- the whole text

title_again : (version : Version) → with_line nothing (line_of (codes "ksi-schedule" ∷ version_word version ∷ [])) ≡ Ok (title version)
unfolding with_line
title_again One = refl
title_again Two = refl

title-clean : (version : Version) → IsClean (codes "ksi-schedule" ∷ version_word version ∷ [])
title-clean One = two (codes "ksi-schedule") (codes "1") (plain (codes "ksi-schedule") refl) (plain (codes "1") refl)
title-clean Two = two (codes "ksi-schedule") (codes "2") (plain (codes "ksi-schedule") refl) (plain (codes "2") refl)

cores_again : (version : Version) (n : ℕ) → 1 ≤ n → n ≤ 9 → with_line (title version) (line_of (codes "cores" ∷ decimal n ∷ [])) ≡ Ok (cores version n)
unfolding with_line number_in
cores_again version n low high =
    rw (words-line_of (codes "cores") (decimal n ∷ []) (two (codes "cores") (decimal n) (plain (codes "cores") refl) (number-clean n (omega arith))), number_again n (omega arith), le-leb _ _ low, le-leb _ _ high) refl

start_again : (version : Version) (n start : ℕ) → start ≤ 2 ^ 63 - 2 ^ 24 → with_line (cores version n) (line_of (codes "start" ∷ decimal start ∷ [])) ≡ Ok (history version (bare n start))
unfolding with_line number_in
start_again version n start high =
    rw (words-line_of (codes "start") (decimal start ∷ []) (two (codes "start") (decimal start) (plain (codes "start") refl) (number-clean start (omega arith))), number_again start (omega arith), le-leb 0 start (omega arith), le-leb _ _ high) refl

-- what is printed says the schedule
pub text_again : (h : History) → IsSchedule h → AllByRecursion IsTyped h.events → IsScheduleText (schedule_text h) h
text_again h is typed =
    let plan = is.plan in
    let cores_are = plan.core_plan in
    let version : Version = version_of h in
    let allowed : IsAllowed version h = version_allows h in
    let small : IsSmall h.plan = record { cores = cores_are.few; parents = plan.many; start = cores_are.early } in
    let behind : List (List Text) = map members_words h.plan.voters ++ (parent_words 0 h.plan.parents ++ map event_words h.events) in (
      version,
      one_line nothing (title version) (history version h) (codes "ksi-schedule" ∷ version_word version ∷ []) ((codes "cores" ∷ decimal h.plan.cores ∷ []) ∷ (codes "start" ∷ decimal h.plan.start ∷ []) ∷ behind)
          (title-clean version) (title_again version)
          (one_line (title version) (cores version h.plan.cores) (history version h) (codes "cores" ∷ decimal h.plan.cores ∷ []) ((codes "start" ∷ decimal h.plan.start ∷ []) ∷ behind)
          (two (codes "cores") (decimal h.plan.cores) (plain (codes "cores") refl) (number-clean h.plan.cores (omega arith))) (cores_again version h.plan.cores cores_are.some cores_are.few)
          (one_line (cores version h.plan.cores) (history version (bare h.plan.cores h.plan.start)) (history version h) (codes "start" ∷ decimal h.plan.start ∷ []) behind
          (two (codes "start") (decimal h.plan.start) (plain (codes "start") refl) (number-clean h.plan.start (omega arith))) (start_again version h.plan.cores h.plan.start cores_are.early)
          (said_again version h.plan h.plan.voters (parent_words 0 h.plan.parents ++ map event_words h.events) (history version h) allowed.pairs cores_are
          (parents_again version h.plan [] h.plan.parents (map event_words h.events) (history version h) plan allowed.parents
          (events_again version (tree h.plan h.plan.parents) h.events small is.events typed allowed.events (omega (arith, is.few))))))),
    )
