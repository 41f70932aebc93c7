-- The lines of a text that is a schedule stand in their order.
use Rattle.std.proofs.Common.{◌≡◌, ℕ, ◌-◌, ◌^◌, Bool, true, false, cond, ◌&&◌, leb, ltb, eqb, List, [], ◌∷◌, ◌++◌, length, codes, Option, Some, None, Ok, Err, refl, sym, ap, subst, ◌∙◌, append_assoc, append-nil}
use Rattle.std.specs.Str.{bytes_eq}
use Rattle.std.proofs.lemmas.Slice.Eq.{bytes_eq-Decides}
use Rattle.ksi_synod.specs.CorePlans.{has_room}
use Rattle.ksi_schedule.specs.declared.event.Event.{Event}
use Rattle.ksi_schedule.specs.declared.parent.Parent.{Parent}
use Rattle.ksi_schedule.specs.declared.fault.LineFault.{LineFault}
use Rattle.ksi_schedule.specs.declared.fault.LineFault.TheVariants.{Header, TooManyEvents}
use Rattle.ksi_schedule.specs.declared.version.Version.{Version}
use Rattle.ksi_schedule.specs.declared.version.Version.TheVariants.{One, Two}
use Rattle.ksi_schedule.specs.Pieces.{Text, lines, words}
use Rattle.ksi_schedule.specs.Decimal.{number_of}
use Rattle.ksi_schedule.specs.Plans.{PlanState, core_plan_of}
use Rattle.ksi_schedule.specs.Events.{History, with_event}
use Rattle.ksi_schedule.specs.Words.{Kind, or_fault, form_at, kind_at, ◌>>=◌}
use Rattle.ksi_schedule.specs.Forms.{event_kinds, aggregator_line, named_requests}
use Rattle.ksi_schedule.specs.Members.{members_name, members_at, rises, with_members, next_members}
use Rattle.ksi_schedule.specs.Lines.{Said, nothing, title, cores, history, bare, version_in, with_parent, reaches_core, is_empty, takes_members, next_parent, next_in, number_in, number_behind, within, with_line}
use Rattle.ksi_schedule.specs.Spelled.{Says, IsScheduleText}
use Rattle.ksi_schedule.specs.Laid.{first_line, SaysNumber, Begins, OneForOne, event_name, IsLaidOut}
use Rattle.ksi_schedule.proofs.Holding.{same, bind_ok, picked, Good, good_in_two, form_holds}
use Rattle.ksi_schedule.proofs.Within.{Either, none_of, alone}

-- ---- lines and their values

one_more : {A : Type 0} (says : Text → A → Type 0) (ls : List Text) (xs : List A) (line : Text) (x : A) → OneForOne says ls xs → says line x → OneForOne says (ls ++ line ∷ []) (xs ++ x ∷ [])
one_more says [] [] line x all more = (more, tt)
one_more says [] (y ∷ xs) line x all more = absurd all
one_more says (l ∷ ls) [] line x all more = absurd all
one_more says (l ∷ ls) (y ∷ xs) line x all more = (all.0, one_more says ls xs line x all.1 more)

no_lines : {A : Type 0} (says : Text → A → Type 0) (ls : List Text) (xs : List A) → OneForOne says ls xs → xs ≡ [] → ls ≡ []
no_lines says [] xs all none = refl
no_lines says (l ∷ ls) [] all none = absurd all
no_lines says (l ∷ ls) (x ∷ xs) all none = absurd cc

same_bytes : (one two : Text) → bytes_eq one two ≡ true → one ≡ two
same_bytes one two is = (bytes_eq-Decides one two).0 is

-- ---- the first three lines

or_some : {A : Type 0} (fault : LineFault) (o : Option A) (x : A) → or_fault fault o ≡ Ok x → o ≡ Some x
or_some fault None x is = absurd cc
or_some fault (Some y) x is = ap Some (same y x is)

picked_some : {A : Type 0} (b : Bool) (x y : A) → cond b (Some x) None ≡ Some y → (b ≡ true) × (x ≡ y)
picked_some true x y is = (refl, cc)
picked_some false x y is = absurd cc

number_some : (low high n : ℕ) (o : Option ℕ) → within low high o ≡ Some n → o ≡ Some n
number_some low high n None is = absurd cc
number_some low high n (Some m) is = ap Some (picked_some (leb low m && leb m high) m n is).1

if_name : (same : Bool) (o : Option ℕ) (n : ℕ) → cond same o None ≡ Some n → (same ≡ true) × (o ≡ Some n)
if_name true o n is = (refl, is)
if_name false o n is = absurd cc

behind_name : (name : Text) (ws : List Text) (n : ℕ) → number_behind name ws ≡ Some n → (word : Text) × (ws ≡ name ∷ word ∷ []) × (number_of word ≡ Some n)
behind_name name [] n is = absurd cc
behind_name name (first ∷ []) n is = absurd cc
behind_name name (first ∷ word ∷ []) n is =
    let o = if_name (bytes_eq first name) (number_of word) n is in
    (word, ap (λ (w : Text). w ∷ word ∷ []) (same_bytes first name o.0), o.1)
behind_name name (first ∷ word ∷ more ∷ ws) n is = absurd cc

says_number : (name : Text) (low high : ℕ) (line : Text) (n : ℕ) → number_in name low high line ≡ Ok n → SaysNumber name n line
unfolding number_in
says_number name low high line n is = behind_name name (words line) n (number_some low high n (number_behind name (words line)) (or_some Header (within low high (number_behind name (words line))) n is))

version_is : (line : Text) (version : Version) (one two : Bool) → bytes_eq line (codes "ksi-schedule 1") ≡ one → bytes_eq line (codes "ksi-schedule 2") ≡ two
    → cond one (Some One) (cond two (Some Two) None) ≡ Some version → line ≡ first_line version
version_is line version true two a b is = same_bytes line (first_line One) a ∙ ap first_line (let e : One ≡ version = cc in e)
version_is line version false true a b is = same_bytes line (first_line Two) b ∙ ap first_line (let e : Two ≡ version = cc in e)
version_is line version false false a b is = absurd cc

-- ---- events' lines

abbrev NamedKinds : PlanState → List (Kind Event) → Type 0
NamedKinds plan [] = Unit {0}
NamedKinds plan (kind ∷ kinds) = Good plan (λ event. event_name event ≡ kind.name) kind.forms × NamedKinds plan kinds

kind_named : (plan : PlanState) (kinds : List (Kind Event)) (name : Text) (ws : List Text) (event : Event) → NamedKinds plan kinds → kind_at plan kinds name ws ≡ Ok event → name ≡ event_name event
kind_named plan [] name ws event all is = absurd cc
kind_named plan (kind ∷ kinds) name ws event all is = by (bytes_eq name kind.name) refl is (λ is. kind_named plan kinds name ws event all.1 is)
  where
    by : (b : Bool) → bytes_eq name kind.name ≡ b → cond b (form_at plan kind.forms ws) (kind_at plan kinds name ws) ≡ Ok event → (kind_at plan kinds name ws ≡ Ok event → name ≡ event_name event) → name ≡ event_name event
    by true e is rest = same_bytes name kind.name e ∙ sym (form_holds plan (λ event. event_name event ≡ kind.name) kind.forms ws event all.0 is)
    by false e is rest = rest is

named_events : (version : Version) (plan : PlanState) → NamedKinds plan (event_kinds version)
named_events version plan =
    (((λ vs h. refl), good_in_two plan (λ event. event_name event ≡ codes "request") version named_requests ((λ vs h. refl), tt)), (((λ vs h. refl), tt), (((λ vs h. refl), tt), (((λ vs h. refl), tt), (((λ vs h. refl), tt), (((λ vs h. refl), tt), (((λ vs h. refl), tt), (((λ vs h. refl), tt), (((λ vs h. refl), ((λ vs h. refl), tt)), tt)))))))))

-- ---- lines so far

record Parts (version : Version) (h : History) (ls : List Text) : Type 0 where
  cores : Text
  start : Text
  members : List Text
  aggregators : List Text
  happened : List Text
  split : ls ≡ first_line version ∷ cores ∷ start ∷ (members ++ (aggregators ++ happened))
  cores_are : SaysNumber (codes "cores") h.plan.cores cores
  starts : SaysNumber (codes "start") h.plan.start start
  voters : OneForOne (λ line pair. Begins (codes "members") line) members h.plan.voters
  parents : OneForOne (λ line parent. Begins (codes "aggregator") line) aggregators h.plan.parents
  events : OneForOne (λ line event. Begins (event_name event) line) happened h.events

abbrev Laid : Said → List Text → Type 0
Laid nothing ls = ls ≡ []
Laid (title version) ls = ls ≡ first_line version ∷ []
Laid (cores version n) ls = (line : Text) × (ls ≡ first_line version ∷ line ∷ []) × SaysNumber (codes "cores") n line
Laid (history version h) ls = Parts version h ls

event_last : (a b c line : Text) (ms gs es : List Text) → (a ∷ b ∷ c ∷ (ms ++ (gs ++ es))) ++ line ∷ [] ≡ a ∷ b ∷ c ∷ (ms ++ (gs ++ (es ++ line ∷ [])))
event_last a b c line ms gs es = simp append_assoc

aggregator_last : (a b c line : Text) (ms gs es : List Text) → es ≡ [] → (a ∷ b ∷ c ∷ (ms ++ (gs ++ es))) ++ line ∷ [] ≡ a ∷ b ∷ c ∷ (ms ++ ((gs ++ line ∷ []) ++ []))
aggregator_last a b c line ms gs es none = rw none (
    ap (λ (xs : List Text). (a ∷ b ∷ c ∷ (ms ++ xs)) ++ line ∷ []) (append-nil gs)
    ∙ ap (λ (xs : List Text). a ∷ b ∷ c ∷ xs) (append_assoc ms gs (line ∷ []))
    ∙ ap (λ (xs : List Text). a ∷ b ∷ c ∷ (ms ++ xs)) (sym (append-nil (gs ++ line ∷ []))))

members_last : (a b c line : Text) (ms gs es : List Text) → gs ≡ [] → es ≡ [] → (a ∷ b ∷ c ∷ (ms ++ (gs ++ es))) ++ line ∷ [] ≡ a ∷ b ∷ c ∷ ((ms ++ line ∷ []) ++ [])
members_last a b c line ms gs es none quiet = rw (none, quiet) (
    ap (λ (xs : List Text). (a ∷ b ∷ c ∷ xs) ++ line ∷ []) (append-nil ms)
    ∙ ap (λ (xs : List Text). a ∷ b ∷ c ∷ xs) (sym (append-nil (ms ++ line ∷ []))))

module _ (version : Version) (h g : History) (ls : List Text) (line name : Text) (ws : List Text) (named : words line ≡ name ∷ ws) (p : Parts version h ls) where
  parent_laid : (form_at h.plan (aggregator_line version).forms ws >>= next_parent h) ≡ Ok g → bytes_eq name (codes "aggregator") ≡ true → h.events ≡ [] → Parts version g (ls ++ line ∷ [])
  unfolding next_parent
  parent_laid is begins none =
      let said = bind_ok (form_at h.plan (aggregator_line version).forms ws) (next_parent h) g is in
      let to = picked (eqb said.0.0 (length h.plan.parents) && ltb (length h.plan.parents) 4096 && reaches_core h.plan 7 said.0.1.actor) (record { plan = with_parent h.plan said.0.1; events = h.events }) g Header said.2 in
      let quiet = no_lines (λ line event. Begins (event_name event) line) p.happened h.events p.events none in
      subst (λ (g : History). Parts version g (ls ++ line ∷ [])) to.1 (record {
        cores = p.cores;
        start = p.start;
        members = p.members;
        aggregators = p.aggregators ++ line ∷ [];
        happened = [];
        split = ap (λ (ls : List Text). ls ++ line ∷ []) p.split ∙ aggregator_last (first_line version) p.cores p.start line p.members p.aggregators p.happened quiet;
        cores_are = p.cores_are;
        starts = p.starts;
        voters = p.voters;
        parents = one_more (λ line parent. Begins (codes "aggregator") line) p.aggregators h.plan.parents line said.0.1 p.parents (ws, named ∙ ap (λ (w : Text). w ∷ ws) (same_bytes name (codes "aggregator") begins));
        events = subst (λ (es : List Event). OneForOne (λ line event. Begins (event_name event) line) [] es) (sym none) tt;
      })

  members_laid : (members_at h.plan ws >>= next_members h) ≡ Ok g → bytes_eq name members_name ≡ true → takes_members version h ≡ true → Parts version g (ls ++ line ∷ [])
  unfolding next_members
  members_laid is begins taken =
      let pair = bind_ok (members_at h.plan ws) (next_members h) g is in
      let to = picked (has_room (core_plan_of h.plan) pair.0.second && rises pair.0.voters) (record { plan = with_members h.plan pair.0; events = h.events }) g Header pair.2 in
      let o = alone version h taken in
      let none = no_lines (λ line parent. Begins (codes "aggregator") line) p.aggregators h.plan.parents p.parents o.0 in
      let quiet = no_lines (λ line event. Begins (event_name event) line) p.happened h.events p.events o.1 in
      subst (λ (g : History). Parts version g (ls ++ line ∷ [])) to.1 (record {
        cores = p.cores;
        start = p.start;
        members = p.members ++ line ∷ [];
        aggregators = [];
        happened = [];
        split = ap (λ (ls : List Text). ls ++ line ∷ []) p.split ∙ members_last (first_line version) p.cores p.start line p.members p.aggregators p.happened none quiet;
        cores_are = p.cores_are;
        starts = p.starts;
        voters = one_more (λ line pair. Begins (codes "members") line) p.members h.plan.voters line pair.0 p.voters (ws, named ∙ ap (λ (w : Text). w ∷ ws) (same_bytes name members_name begins));
        parents = subst (λ (xs : List Parent). OneForOne (λ line parent. Begins (codes "aggregator") line) [] xs) (sym o.0) tt;
        events = subst (λ (es : List Event). OneForOne (λ line event. Begins (event_name event) line) [] es) (sym o.1) tt;
      })

  event_laid : (kind_at h.plan (event_kinds version) name ws >>= λ event. Ok (with_event h event)) ≡ Ok g → Parts version g (ls ++ line ∷ [])
  event_laid is =
      let event = bind_ok (kind_at h.plan (event_kinds version) name ws) (λ event. Ok (with_event h event)) g is in
      let begins = kind_named h.plan (event_kinds version) name ws event.0 (named_events version h.plan) event.1 in
      subst (λ (g : History). Parts version g (ls ++ line ∷ [])) (same (with_event h event.0) g event.2) (record {
        cores = p.cores;
        start = p.start;
        members = p.members;
        aggregators = p.aggregators;
        happened = p.happened ++ line ∷ [];
        split = ap (λ (ls : List Text). ls ++ line ∷ []) p.split ∙ event_last (first_line version) p.cores p.start line p.members p.aggregators p.happened;
        cores_are = p.cores_are;
        starts = p.starts;
        voters = p.voters;
        parents = p.parents;
        events = one_more (λ line event. Begins (event_name event) line) p.happened h.events line event.0 p.events (ws, named ∙ ap (λ (w : Text). w ∷ ws) begins);
      })

  either_laid : (a m empty taken : Bool) → bytes_eq name (codes "aggregator") ≡ a → bytes_eq name members_name ≡ m → is_empty h.events ≡ empty → takes_members version h ≡ taken
      → Either version h name ws (a && empty) (m && taken) ≡ Ok g → Parts version g (ls ++ line ∷ [])
  either_laid true m true taken ia im none may is = parent_laid is ia (none_of h.events none)
  either_laid false true empty true ia im some may is = members_laid is im may
  either_laid true true false true ia im some may is = members_laid is im may
  either_laid false false empty taken ia im some may is = event_laid is
  either_laid false true empty false ia im some may is = event_laid is
  either_laid true false false taken ia im some may is = event_laid is
  either_laid true true false false ia im some may is = event_laid is

  full_laid : (full : Bool) → cond full (Err TooManyEvents) (Either version h name ws (bytes_eq name (aggregator_line version).name && is_empty h.events) (bytes_eq name members_name && takes_members version h)) ≡ Ok g → Parts version g (ls ++ line ∷ [])
  full_laid true is = absurd cc
  full_laid false is = either_laid (bytes_eq name (codes "aggregator")) (bytes_eq name members_name) (is_empty h.events) (takes_members version h) refl refl refl refl is

next_laid : (version : Version) (h g : History) (ls : List Text) (line : Text) (ws : List Text) → words line ≡ ws → next_in version h ws ≡ Ok g → Parts version h ls → Parts version g (ls ++ line ∷ [])
unfolding next_in
next_laid version h g ls line [] named is p = absurd cc
next_laid version h g ls line (name ∷ ws) named is p = full_laid version h g ls line name ws named p (leb 1000000 (length h.events)) is

-- ---- all lines

line_laid : (a b : Said) (ls : List Text) (line : Text) → with_line a line ≡ Ok b → Laid a ls → Laid b (ls ++ line ∷ [])
unfolding with_line
line_laid nothing b ls line is laid =
    let version = bind_ok (or_fault Header (version_in line)) (λ version. Ok (title version)) b is in
    let first = version_is line version.0 (bytes_eq line (codes "ksi-schedule 1")) (bytes_eq line (codes "ksi-schedule 2")) refl refl (or_some Header (version_in line) version.0 version.1) in
    subst (λ (b : Said). Laid b (ls ++ line ∷ [])) (same (title version.0) b version.2) (rw laid (ap (λ (l : Text). l ∷ []) first))
line_laid (title version) b ls line is laid =
    let n = bind_ok (number_in (codes "cores") 1 9 line) (λ n. Ok (cores version n)) b is in
    subst (λ (b : Said). Laid b (ls ++ line ∷ [])) (same (cores version n.0) b n.2) (line, ap (λ (ls : List Text). ls ++ line ∷ []) laid, says_number (codes "cores") 1 9 line n.0 n.1)
line_laid (cores version n) b ls line is laid =
    let start = bind_ok (number_in (codes "start") 0 (2 ^ 63 - 2 ^ 24) line) (λ start. Ok (history version (bare n start))) b is in
    subst (λ (b : Said). Laid b (ls ++ line ∷ [])) (same (history version (bare n start.0)) b start.2) (record {
      cores = laid.0;
      start = line;
      members = [];
      aggregators = [];
      happened = [];
      split = ap (λ (ls : List Text). ls ++ line ∷ []) laid.1;
      cores_are = laid.2;
      starts = says_number (codes "start") 0 (2 ^ 63 - 2 ^ 24) line start.0 start.1;
      voters = tt;
      parents = tt;
      events = tt;
    })
line_laid (history version h) b ls line is laid =
    let next = bind_ok (next_in version h (words line)) (λ next. Ok (history version next)) b is in
    subst (λ (b : Said). Laid b (ls ++ line ∷ [])) (same (history version next.0) b next.2) (next_laid version h next.0 ls line (words line) refl next.1 laid)

says_laid : (a b : Said) (before ls : List Text) → Says a ls b → Laid a before → Laid b (before ++ ls)
says_laid a b before [] says laid = subst (λ (b : Said). Laid b (before ++ [])) says (subst (Laid a) (sym (append-nil before)) laid)
says_laid a b before (line ∷ ls) says laid =
    subst (Laid b) (append_assoc before (line ∷ []) ls) (says_laid says.0 b (before ++ line ∷ []) ls says.2 (line_laid a says.0 before line says.1 laid))

pub laid_out : (text : Text) (h : History) → IsScheduleText text h → IsLaidOut text h
laid_out text h is =
    let p = says_laid nothing (history is.0 h) [] (lines text) is.1 refl in
    record {
      version = is.0;
      cores = p.cores;
      start = p.start;
      members = p.members;
      aggregators = p.aggregators;
      happened = p.happened;
      split = p.split;
      cores_are = p.cores_are;
      starts = p.starts;
      voters = p.voters;
      parents = p.parents;
      events = p.events;
    }
