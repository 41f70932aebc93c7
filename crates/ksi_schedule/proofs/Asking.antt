-- What a text asks to sign are imprints, of bytes.
use Rattle.std.proofs.Common.{◌≡◌, ◌&&◌, Bool, true, false, cond, eqb, leb, ltb, ◌-◌, ◌^◌, List, [], ◌∷◌, ◌++◌, length, codes, Ok, Err, subst, arith}
use Rattle.std.specs.List.{AllByRecursion}
use Rattle.std.specs.Str.{bytes_eq}
use Rattle.ksi_schedule.specs.declared.event.Event.{Event}
use Rattle.ksi_schedule.specs.declared.fault.LineFault.TheVariants.{Header, TooManyEvents}
use Rattle.ksi_schedule.specs.Pieces.{Text, lines, words}
use Rattle.ksi_synod.specs.CorePlans.{has_room}
use Rattle.ksi_schedule.specs.declared.version.Version.{Version}
use Rattle.ksi_schedule.specs.Plans.{PlanState, core_plan_of}
use Rattle.ksi_schedule.specs.Events.{History, AsksForImprint, AskForImprints, AsksForBytes, with_event}
use Rattle.ksi_schedule.specs.Schedules.{IsHistory}
use Rattle.ksi_schedule.specs.Words.{or_fault, form_at, kind_at, ◌>>=◌}
use Rattle.ksi_schedule.specs.Forms.{event_kinds, aggregator_line, named_requests}
use Rattle.ksi_schedule.specs.Members.{members_name, members_at, rises, with_members, next_members}
use Rattle.ksi_schedule.specs.Lines.{Said, nothing, title, cores, history, bare, version_in, with_parent, reaches_core, is_empty, takes_members, next_parent, next_in, number_in, with_line}
use Rattle.ksi_schedule.specs.Spelled.{Says, IsScheduleText}
use Rattle.ksi_schedule.proofs.Holding.{same, bind_ok, picked, GoodKinds, good_in_two, kind_holds}
use Rattle.ksi_schedule.proofs.Rising.{Grows}
use Rattle.ksi_schedule.proofs.Within.{Either, spelled_within}

module _ (Asking : Event → Type 0) (good : (version : Version) (plan : PlanState) → GoodKinds plan Asking (event_kinds version)) where
  asks_more : (es : List Event) (e : Event) → AllByRecursion Asking es → Asking e → AllByRecursion Asking (es ++ e ∷ [])
  asks_more [] e all more = (more, tt)
  asks_more (f ∷ es) e all more = (all.0, asks_more es e all.1 more)

  abbrev Asks : History → Type 0
  Asks h = AllByRecursion Asking h.events

  parent_asks : (version : Version) (h g : History) (ws : List Text) → (form_at h.plan (aggregator_line version).forms ws >>= next_parent h) ≡ Ok g → Asks h → Asks g
  unfolding next_parent
  parent_asks version h g ws is asks =
      let said = bind_ok (form_at h.plan (aggregator_line version).forms ws) (next_parent h) g is in
      let p = picked (eqb said.0.0 (length h.plan.parents) && ltb (length h.plan.parents) 4096 && reaches_core h.plan 7 said.0.1.actor) (record { plan = with_parent h.plan said.0.1; events = h.events }) g Header said.2 in
      subst Asks p.1 asks

  event_asks : (version : Version) (h g : History) (name : Text) (ws : List Text) → (kind_at h.plan (event_kinds version) name ws >>= λ event. Ok (with_event h event)) ≡ Ok g → Asks h → Asks g
  event_asks version h g name ws is asks =
      let event = bind_ok (kind_at h.plan (event_kinds version) name ws) (λ event. Ok (with_event h event)) g is in
      subst Asks (same (with_event h event.0) g event.2) (asks_more h.events event.0 asks (kind_holds h.plan Asking (event_kinds version) name ws event.0 (good version h.plan) event.1))

  members_asks : (h g : History) (ws : List Text) → (members_at h.plan ws >>= next_members h) ≡ Ok g → Asks h → Asks g
  unfolding next_members
  members_asks h g ws is asks =
      let pair = bind_ok (members_at h.plan ws) (next_members h) g is in
      let p = picked (has_room (core_plan_of h.plan) pair.0.second && rises pair.0.voters) (record { plan = with_members h.plan pair.0; events = h.events }) g Header pair.2 in
      subst Asks p.1 asks

  either_asks : (version : Version) (h g : History) (name : Text) (ws : List Text) (a m : Bool) → Either version h name ws a m ≡ Ok g → Asks h → Asks g
  either_asks version h g name ws true m is asks = parent_asks version h g ws is asks
  either_asks version h g name ws false true is asks = members_asks h g ws is asks
  either_asks version h g name ws false false is asks = event_asks version h g name ws is asks

  full_asks : (version : Version) (h g : History) (name : Text) (ws : List Text) (full : Bool)
      → cond full (Err TooManyEvents) (Either version h name ws (bytes_eq name (aggregator_line version).name && is_empty h.events) (bytes_eq name members_name && takes_members version h)) ≡ Ok g → Asks h → Asks g
  full_asks version h g name ws true is asks = absurd cc
  full_asks version h g name ws false is asks = either_asks version h g name ws (bytes_eq name (aggregator_line version).name && is_empty h.events) (bytes_eq name members_name && takes_members version h) is asks

  next_asks : (version : Version) (h g : History) (ws : List Text) → next_in version h ws ≡ Ok g → Asks h → Asks g
  unfolding next_in
  next_asks version h g [] is asks = absurd cc
  next_asks version h g (name ∷ ws) is asks = full_asks version h g name ws (leb 1000000 (length h.events)) is asks

  abbrev SaidAsks : Said → Type 0
  SaidAsks (history version h) = Asks h
  SaidAsks _ = Unit {0}

  line_asks : (a b : Said) (line : Text) → with_line a line ≡ Ok b → SaidAsks a → SaidAsks b
  unfolding with_line
  line_asks nothing b line is asks =
      let version = bind_ok (or_fault Header (version_in line)) (λ version. Ok (title version)) b is in
      subst SaidAsks (same (title version.0) b version.2) tt
  line_asks (title version) b line is asks =
      let n = bind_ok (number_in (codes "cores") 1 9 line) (λ n. Ok (cores version n)) b is in
      subst SaidAsks (same (cores version n.0) b n.2) tt
  line_asks (cores version n) b line is asks =
      let start = bind_ok (number_in (codes "start") 0 (2 ^ 63 - 2 ^ 24) line) (λ start. Ok (history version (bare n start))) b is in
      subst SaidAsks (same (history version (bare n start.0)) b start.2) tt
  line_asks (history version h) b line is asks =
      let next = bind_ok (next_in version h (words line)) (λ next. Ok (history version next)) b is in
      subst SaidAsks (same (history version next.0) b next.2) (next_asks version h next.0 (words line) next.1 asks)

  says_asks : (a b : Said) (ls : List Text) → Says a ls b → SaidAsks a → SaidAsks b
  says_asks a b [] says asks = subst SaidAsks says asks
  says_asks a b (line ∷ ls) says asks = says_asks says.0 b ls says.2 (line_asks a says.0 line says.1 asks)

  spelled : (text : Text) (h : History) → IsScheduleText text h → AllByRecursion Asking h.events
  spelled text h says = says_asks nothing (history says.0 h) (lines text) says.1 tt

for_imprints : (version : Version) (plan : PlanState) → GoodKinds plan AsksForImprint (event_kinds version)
for_imprints version plan =
    (((λ vs h. h.1.1.0.0), good_in_two plan AsksForImprint version named_requests ((λ vs h. h.1.1.0.0), tt)), (((λ vs h. tt), tt), (((λ vs h. tt), tt), (((λ vs h. tt), tt), (((λ vs h. tt), tt), (((λ vs h. tt), tt), (((λ vs h. tt), tt), (((λ vs h. tt), tt), (((λ vs h. tt), ((λ vs h. tt), tt)), tt)))))))))

for_bytes : (version : Version) (plan : PlanState) → GoodKinds plan AsksForBytes (event_kinds version)
for_bytes version plan =
    (((λ vs h. h.1.1.0.1), good_in_two plan AsksForBytes version named_requests ((λ vs h. h.1.1.0.1), tt)), (((λ vs h. tt), tt), (((λ vs h. tt), tt), (((λ vs h. tt), tt), (((λ vs h. tt), tt), (((λ vs h. tt), tt), (((λ vs h. tt), tt), (((λ vs h. tt), tt), (((λ vs h. tt), ((λ vs h. tt), tt)), tt)))))))))

pub spelled_asks : (text : Text) (h : History) → IsScheduleText text h → AskForImprints h.events
spelled_asks = spelled AsksForImprint for_imprints

-- so what a text spells follows the rules
pub spelled_history : Grows → (text : Text) (h : History) → IsScheduleText text h → IsHistory h
spelled_history grows text h is =
    let within = spelled_within grows text h is in
    record { plan = within.plan; events = within.events; few = omega (arith, within.few); imprints = spelled_asks text h is; bytes = spelled AsksForBytes for_bytes text h is }
