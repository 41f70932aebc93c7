-- What a text spells is within the limits of a schedule.
use Rattle.std.proofs.Common.{◌≡◌, ℕ, ◌-◌, ◌^◌, ◌<◌, ◌≤◌, Bool, true, false, cond, ◌&&◌, ltb, leb, eqb, List, [], ◌∷◌, length, codes, Option, Some, None, Result, Ok, Err, refl, subst, arith, length-append}
use Rattle.std.specs.Str.{bytes_eq}
use Rattle.std.proofs.lemmas.Bool.{ltb-true, leb-true, leb-false}
use Rattle.std.proofs.lemmas.Option.{slice_get_within}
use Rattle.ksi_synod.specs.declared.core_plan.VotersFrom.{VotersFrom}
use Rattle.std.specs.Prelude.{IfSome}
use Rattle.ksi_synod.specs.CorePlans.{has_room}
use Rattle.ksi_aggtree.specs.Names.{IsName}
use Rattle.ksi_schedule.specs.declared.parent.Parent.{Parent}
use Rattle.ksi_schedule.specs.declared.version.Version.{Version}
use Rattle.ksi_schedule.specs.declared.version.Version.TheVariants.{One, Two}
use Rattle.ksi_schedule.specs.declared.fault.LineFault.{LineFault}
use Rattle.ksi_schedule.specs.declared.fault.LineFault.TheVariants.{Header, TooManyEvents}
use Rattle.ksi_schedule.specs.Pieces.{Text, lines, words}
use Rattle.ksi_schedule.specs.Plans.{PlanState, IsParent, core_plan_of}
use Rattle.ksi_schedule.specs.Events.{History, IsEvent, with_event}
use Rattle.ksi_schedule.specs.Schedules.{IsSchedule}
use Rattle.ksi_schedule.specs.Words.{form_at, kind_at, or_fault, ◌>>=◌}
use Rattle.ksi_schedule.specs.Forms.{event_kinds, aggregator_line, named_parents, named_requests}
use Rattle.ksi_schedule.specs.Members.{members_name, members_at, rises, with_members, next_members}
use Rattle.ksi_schedule.specs.Lines.{Said, nothing, title, cores, history, bare, version_in, with_parent, reaches_core, is_empty, takes_members, next_parent, next_in, number_in, number_behind, within, with_line}
use Rattle.ksi_schedule.specs.Spelled.{Says, IsScheduleText}
use Rattle.ksi_schedule.proofs.Holding.{same, bind_ok, picked, both, Good, GoodKinds, good_in_two, form_holds, kind_holds}
use Rattle.ksi_schedule.proofs.Rising.{Grows, voters_hold, members_second}
use Rattle.ksi_schedule.proofs.Next.{plan_next, plan_voting, events_next, no_events}

abbrev IsParentOf : PlanState → ℕ × Parent → Type 0
IsParentOf plan said = IsParent plan.cores (length plan.parents) said.1.actor × IfSome said.1.name IsName

good_parents : (version : Version) (plan : PlanState) → Good plan (IsParentOf plan) (aggregator_line version).forms
good_parents version plan =
    ((λ vs h. (h.1.1.0, tt)), ((λ vs h. (h.1.1.0, tt)), good_in_two plan (IsParentOf plan) version named_parents ((λ vs h. (h.1.1.0, h.1.1.1.1.0)), ((λ vs h. (h.1.1.0, h.1.1.1.1.0)), tt))))

good_events : (version : Version) (plan : PlanState) → GoodKinds plan (IsEvent plan) (event_kinds version)
good_events version plan =
    (((λ vs h. (h.0, h.1.0, tt)), good_in_two plan (IsEvent plan) version named_requests ((λ vs h. (h.0, h.1.0, h.1.1.1.0)), tt)), (((λ vs h. (h.0, h.1.0)), tt), (((λ vs h. (h.0, h.1.0)), tt), (((λ vs h. (h.0, h.1.0)), tt), (((λ vs h. tt), tt), (((λ vs h. (h.0, h.1.0)), tt), (((λ vs h. (h.0, h.1.0)), tt), (((λ vs h. (h.0, h.1.0)), tt), (((λ vs h. h.0), ((λ vs h. h.0), tt)), tt)))))))))

-- ---- lines

parent_within : (h g : History) (said : ℕ × Parent) → next_parent h said ≡ Ok g → h.events ≡ [] → IsSchedule h → IsParentOf h.plan said → IsSchedule g
unfolding next_parent
parent_within h g said is none limits there =
    let p = picked (eqb said.0 (length h.plan.parents) && ltb (length h.plan.parents) 4096 && reaches_core h.plan 7 said.1.actor) (record { plan = with_parent h.plan said.1; events = h.events }) g Header is in
    let o = both (eqb said.0 (length h.plan.parents) && ltb (length h.plan.parents) 4096) (reaches_core h.plan 7 said.1.actor) p.0 in
    let i = both (eqb said.0 (length h.plan.parents)) (ltb (length h.plan.parents) 4096) o.0 in
    subst IsSchedule p.1 (record {
      plan = plan_next h.plan said.1 limits.plan (ltb-true _ _ i.1) there.0 there.1 o.1;
      events = no_events (with_parent h.plan said.1) h.events none;
      few = limits.few;
    })

aggregator_within : (version : Version) (h g : History) (ws : List Text) → (form_at h.plan (aggregator_line version).forms ws >>= next_parent h) ≡ Ok g → h.events ≡ [] → IsSchedule h → IsSchedule g
aggregator_within version h g ws is none limits =
    let said = bind_ok (form_at h.plan (aggregator_line version).forms ws) (next_parent h) g is in
    parent_within h g said.0 said.2 none limits (form_holds h.plan (IsParentOf h.plan) (aggregator_line version).forms ws said.0 (good_parents version h.plan) said.1)

event_within : (version : Version) (h g : History) (name : Text) (ws : List Text) → (kind_at h.plan (event_kinds version) name ws >>= λ event. Ok (with_event h event)) ≡ Ok g → length h.events < 1000000 → IsSchedule h → IsSchedule g
event_within version h g name ws is room limits =
    let event = bind_ok (kind_at h.plan (event_kinds version) name ws) (λ event. Ok (with_event h event)) g is in
    subst IsSchedule (same (with_event h event.0) g event.2) (record {
      plan = limits.plan;
      events = events_next h.plan h.events event.0 limits.events (kind_holds h.plan (IsEvent h.plan) (event_kinds version) name ws event.0 (good_events version h.plan) event.1);
      few = omega (arith, length-append h.events (event.0 ∷ []));
    })

pub none_of : {A : Type 0} (xs : List A) → is_empty xs ≡ true → xs ≡ []
none_of [] is = refl
none_of (x ∷ xs) is = absurd cc

-- nothing is said of aggregators and events where a line may say who votes
pub alone : (version : Version) (h : History) → takes_members version h ≡ true → (h.plan.parents ≡ []) × (h.events ≡ [])
alone One h is = absurd cc
alone Two h is = let o = both (is_empty h.plan.parents) (is_empty h.events) is in (none_of h.plan.parents o.0, none_of h.events o.1)

abbrev pub Either : Version → History → Text → List Text → (aggregator members : Bool) → Result History LineFault
Either version h name ws aggregator members =
    cond aggregator (form_at h.plan (aggregator_line version).forms ws >>= next_parent h)
    (cond members (members_at h.plan ws >>= next_members h) (kind_at h.plan (event_kinds version) name ws >>= λ event. Ok (with_event h event)))

module _ (grows : Grows) where
  voters_within : (h g : History) (pair : VotersFrom) (ws : List Text) → members_at h.plan ws ≡ Ok pair → next_members h pair ≡ Ok g → h.plan.parents ≡ [] → h.events ≡ [] → IsSchedule h → IsSchedule g
  unfolding next_members
  voters_within h g pair ws said is none quiet limits =
      let p = picked (has_room (core_plan_of h.plan) pair.second && rises pair.voters) (record { plan = with_members h.plan pair; events = h.events }) g Header is in
      let o = both (has_room (core_plan_of h.plan) pair.second) (rises pair.voters) p.0 in
      let in_range = members_second h.plan ws pair said in
      subst IsSchedule p.1 (record {
        plan = plan_voting h.plan pair none limits.plan (grows (core_plan_of h.plan) pair.second pair.voters limits.plan.core_plan o.0 in_range.0 in_range.1 (voters_hold h.plan ws pair said o.1));
        events = no_events (with_members h.plan pair) h.events quiet;
        few = limits.few;
      })

  members_within : (version : Version) (h g : History) (ws : List Text) → (members_at h.plan ws >>= next_members h) ≡ Ok g → takes_members version h ≡ true → IsSchedule h → IsSchedule g
  members_within version h g ws is taken limits =
      let pair = bind_ok (members_at h.plan ws) (next_members h) g is in
      let o = alone version h taken in
      voters_within h g pair.0 ws pair.1 pair.2 o.0 o.1 limits

  either_within : (version : Version) (h g : History) (name : Text) (ws : List Text) (a m empty taken : Bool) → is_empty h.events ≡ empty → takes_members version h ≡ taken
      → Either version h name ws (a && empty) (m && taken) ≡ Ok g → length h.events < 1000000 → IsSchedule h → IsSchedule g
  either_within version h g name ws true m true taken none may is room limits = aggregator_within version h g ws is (none_of h.events none) limits
  either_within version h g name ws false true empty true some may is room limits = members_within version h g ws is may limits
  either_within version h g name ws true true false true some may is room limits = members_within version h g ws is may limits
  either_within version h g name ws false false empty taken some may is room limits = event_within version h g name ws is room limits
  either_within version h g name ws false true empty false some may is room limits = event_within version h g name ws is room limits
  either_within version h g name ws true false false taken some may is room limits = event_within version h g name ws is room limits
  either_within version h g name ws true true false false some may is room limits = event_within version h g name ws is room limits

  full_within : (version : Version) (h g : History) (name : Text) (ws : List Text) (full : Bool) → leb 1000000 (length h.events) ≡ full
      → cond full (Err TooManyEvents) (Either version h name ws (bytes_eq name (aggregator_line version).name && is_empty h.events) (bytes_eq name members_name && takes_members version h)) ≡ Ok g → IsSchedule h → IsSchedule g
  full_within version h g name ws true full is limits = absurd cc
  full_within version h g name ws false room is limits =
      either_within version h g name ws (bytes_eq name (aggregator_line version).name) (bytes_eq name members_name) (is_empty h.events) (takes_members version h) refl refl is (leb-false _ _ room) limits

  next_within : (version : Version) (h g : History) (ws : List Text) → next_in version h ws ≡ Ok g → IsSchedule h → IsSchedule g
  unfolding next_in
  next_within version h g [] is limits = absurd cc
  next_within version h g (name ∷ ws) is limits = full_within version h g name ws (leb 1000000 (length h.events)) refl is limits

-- ---- the first three lines

bound_holds : (low high m n : ℕ) (b : Bool) → (leb low m && leb m high) ≡ b → or_fault Header (cond b (Some m) None) ≡ Ok n → (low ≤ n) × (n ≤ high)
bound_holds low high m n true is read =
    let o = both (leb low m) (leb m high) is in
    subst (λ (n : ℕ). (low ≤ n) × (n ≤ high)) (same m n read) (leb-true _ _ o.0, leb-true _ _ o.1)
bound_holds low high m n false is read = absurd cc

within_holds : (low high n : ℕ) (o : Option ℕ) → or_fault Header (within low high o) ≡ Ok n → (low ≤ n) × (n ≤ high)
within_holds low high n None read = absurd cc
within_holds low high n (Some m) read = bound_holds low high m n (leb low m && leb m high) refl read

number_holds : (name : Text) (low high : ℕ) (line : Text) (n : ℕ) → number_in name low high line ≡ Ok n → (low ≤ n) × (n ≤ high)
unfolding number_in
number_holds name low high line n read = within_holds low high n (number_behind name (words line)) read

bare_within : (n start : ℕ) → 1 ≤ n → n ≤ 9 → start ≤ 2 ^ 63 - 2 ^ 24 → IsSchedule (bare n start)
bare_within n start some few early = record {
  plan = record {
    core_plan = record { some = some; few = few; early = early; many = omega arith; rising = tt; pairs = tt };
    many = omega arith;
    parents = λ k parent at. absurd (omega (arith, slice_get_within [] k parent at));
    names = λ k. tt;
    low = λ k lt. absurd (omega arith);
  };
  events = tt;
  few = omega arith;
}

-- ---- all lines

abbrev IsWithin : Said → Type 0
IsWithin nothing = Unit {0}
IsWithin (title version) = Unit {0}
IsWithin (cores version n) = (1 ≤ n) × (n ≤ 9)
IsWithin (history version h) = IsSchedule h

module _ (grows : Grows) where
  line_within : (a b : Said) (line : Text) → with_line a line ≡ Ok b → IsWithin a → IsWithin b
  unfolding with_line
  line_within nothing b line is limits =
      let version = bind_ok (or_fault Header (version_in line)) (λ version. Ok (title version)) b is in
      subst IsWithin (same (title version.0) b version.2) tt
  line_within (title version) b line is limits =
      let n = bind_ok (number_in (codes "cores") 1 9 line) (λ n. Ok (cores version n)) b is in
      subst IsWithin (same (cores version n.0) b n.2) (number_holds (codes "cores") 1 9 line n.0 n.1)
  line_within (cores version n) b line is limits =
      let start = bind_ok (number_in (codes "start") 0 (2 ^ 63 - 2 ^ 24) line) (λ start. Ok (history version (bare n start))) b is in
      subst IsWithin (same (history version (bare n start.0)) b start.2) (bare_within n start.0 limits.0 limits.1 (number_holds (codes "start") 0 (2 ^ 63 - 2 ^ 24) line start.0 start.1).1)
  line_within (history version h) b line is limits =
      let next = bind_ok (next_in version h (words line)) (λ next. Ok (history version next)) b is in
      subst IsWithin (same (history version next.0) b next.2) (next_within grows version h next.0 (words line) next.1 limits)

  says_within : (a b : Said) (ls : List Text) → Says a ls b → IsWithin a → IsWithin b
  says_within a b [] says limits = subst IsWithin says limits
  says_within a b (line ∷ ls) says limits = says_within says.0 b ls says.2 (line_within a says.0 line says.1 limits)

  pub spelled_within : (text : Text) (h : History) → IsScheduleText text h → IsSchedule h
  spelled_within text h says = says_within nothing (history says.0 h) (lines text) says.1 tt
