-- The facts of a core after an event more.
use Rattle.ksi_schedule.specs.Plans.{PlanState, core_plan_of}
use Rattle.std.proofs.Common.{◌≡◌, ◌<◌, ◌≤◌, ◌+◌, take, ℕ, zero, suc, length, get_or, arith, eqb, Bool, true, false, if◌then◌else◌, List, [], ◌∷◌, ◌++◌, map, option_map, refl, sym, ap, subst, ◌∙◌, Option, Some, None}
use Rattle.std.specs.Prelude.{slice_get}
use Rattle.std.proofs.lemmas.Bool.{eqb-true}
use Rattle.std.proofs.lemmas.List.{take_all}
use Rattle.std.proofs.Math.Seq.{take-suc}
use Rattle.ksi_aggtree.specs.declared.item.Item.{Item}
use Rattle.ksi_calendar.specs.Covered.{Roots}
use Rattle.ksi_synod.specs.CorePlans.{CorePlanState}
use Rattle.ksi_synod.specs.declared.messages.SynodMessage.{SynodMessage}
use Rattle.ksi_corenode.specs.SecondState.{SecondState}
use Rattle.ksi_corenode.specs.Turns.{Turn}
use Rattle.ksi_corenode.specs.Rows.{submission_row, seal_row, ballot_row, receive_row, tell_row, respond_row}
use Rattle.ksi_corenode.specs.Facts.{fact_of}
use Rattle.ksi_corenode.specs.Lawful.{with_new}
use Rattle.ksi_corenode.specs.Events.{event_second}
use Rattle.ksi_corenode.specs.declared.event.CoreEvent.{CoreEvent}
use Rattle.ksi_corenode.specs.declared.event.CoreEvent.TheVariants as happenings
use Rattle.ksi_corenode.specs.declared.fact.What.{What}
use Rattle.ksi_corenode.specs.declared.fact.What.TheVariants as whats
use Rattle.ksi_schedule.specs.declared.actor.Actor.{Actor}
use Rattle.ksi_schedule.specs.declared.actor.Actor.TheVariants as actors
use Rattle.ksi_schedule.specs.declared.event.Event.{Event}
use Rattle.ksi_schedule.specs.declared.event.Event.TheVariants as events
use Rattle.ksi_schedule.specs.Events.{History, IsEvent, AreEvents, with_event}
use Rattle.ksi_world.specs.declared.message.Content.{Content}
use Rattle.ksi_world.specs.declared.message.Content.TheVariants as contents
use Rattle.ksi_world.specs.declared.message.Message.{Message}
use Rattle.ksi_world.specs.Histories.{WorldState, after}
use Rattle.ksi_world.specs.Nodes.{core_turn}
use Rattle.ksi_world.specs.CoreEvents.{asked_by_content, asked_by_message, asked_of, where_mine}
use Rattle.ksi_laws_facts.specs.Seen.{Seen, seen}
use Rattle.ksi_laws_facts.specs.Deeds.{Act, Deed, Did, facts, own}
use Rattle.ksi_laws_facts.specs.Deeds as happened
use Rattle.ksi_laws_facts.specs.State.{second_seen, held_seen, wire_seen, world_seen}
use Rattle.ksi_laws_facts.specs.Steps.{IsStepByFacts, by_delivery, by_message, new_facts, step_by_facts}
use Rattle.ksi_laws_facts.specs.Stored.{AddsStored, core_act, core_acts}
use Rattle.ksi_node_file.specs.CoreFacts.{core_facts, in_order}

pub asked_here : (j i : ℕ) (asked e : CoreEvent) → where_mine j i asked ≡ Some e → (eqb j i ≡ true) × (asked ≡ e)
asked_here j i asked e is = by (eqb j i) refl is
  where
    by : (b : Bool) → eqb j i ≡ b → (if b then Some asked else None) ≡ Some e → (eqb j i ≡ true) × (asked ≡ e)
    by true here is = (here, cc is)
    by false here is = absurd (cc is)

asked_there : (j i : ℕ) (asked : CoreEvent) → where_mine j i asked ≡ None → eqb j i ≡ false
asked_there j i asked is = by (eqb j i) is
  where
    by : (b : Bool) → (if b then Some asked else None) ≡ None → b ≡ false
    by true is = absurd (cc is)
    by false is = refl

-- IN ORDER

in_order_one : (t : ℕ) (what : What) (older : List Deed) → in_order (Did t (core_act what) ∷ older) ≡ in_order older ++ fact_of t what ∷ []
in_order_one t (whats.Sealed items) older = refl
in_order_one t (whats.Tried ballot) older = refl
in_order_one t (whats.Promised ballot) older = refl
in_order_one t (whats.Cast vote) older = refl
in_order_one t (whats.Holds root) older = refl

in_order_more : (t : ℕ) (fact : Option What) (older : List Deed) → in_order (map (Did t) (core_acts fact) ++ older) ≡ with_new (in_order older) (option_map (fact_of t) fact)
in_order_more t None older = refl
in_order_more t (Some what) older = in_order_one t what older

-- WHAT AN EVENT ADDS

-- what each row adds is what it stores
pub record RowsStore (image : List ℕ → List ℕ) : Type 0 where
  pub submission : (from : ℕ) (item : Item) (s : SecondState) → AddsStored s (submission_row from item s)
  pub seal : (s : SecondState) → AddsStored s (seal_row image s)
  pub ballot : (plan : CorePlanState) (second me : ℕ) (s : SecondState) → AddsStored s (ballot_row plan second me s)
  pub receive : (plan : CorePlanState) (second from : ℕ) (m : SynodMessage) (s : SecondState) → AddsStored s (receive_row plan second from m s)
  pub tell : (plan : CorePlanState) (second me : ℕ) (s : SecondState) → AddsStored s (tell_row plan second me s)
  pub respond : (held : Roots) (start second : ℕ) (s : SecondState) → AddsStored s (respond_row image held start second s)

mine : (j i u : ℕ) (acts : ℕ → List Act) → eqb j i ≡ true → own (actors.Core j) (actors.Core i) u (acts i) ≡ map (Did u) (acts j)
mine j i u acts here =
    ap (λ (b : Bool). if b then map (Did u) (acts i) else []) here
    ∙ ap (λ (k : ℕ). map (Did u) (acts k)) (sym (eqb-true j i here))

others : (j i u : ℕ) (acts : List Act) → eqb j i ≡ false → own (actors.Core j) (actors.Core i) u acts ≡ []
others j i u acts there = ap (λ (b : Bool). if b then map (Did u) acts else []) there

module _ (image : List ℕ → List ℕ) (plan : PlanState) (past : List Seen) (j : ℕ) where
  -- core j adds what its turn stores
  abbrev Adds : CoreEvent → List Deed → Type 0
  Adds e deeds = deeds ≡ map (Did (event_second e)) (core_acts (core_turn image plan (world_seen image plan past) j e).fact)

  by_row : (i u : ℕ) (row : ℕ → SecondState → Turn) → ((s : SecondState) → AddsStored s (row j s)) → eqb j i ≡ true
      → own (actors.Core j) (actors.Core i) u (new_facts (second_seen image plan past i u) (row i (second_seen image plan past i u)).after)
      ≡ map (Did u) (core_acts (row j (second_seen image plan past j u)).fact)
  by_row i u row stores here =
      mine j i u (λ k. new_facts (second_seen image plan past k u) (row k (second_seen image plan past k u)).after) here
      ∙ ap (λ (acts : List Act). map (Did u) acts) (stores (second_seen image plan past j u))

  module _ (rows : RowsStore image) where
    content_adds : (sender addressee : Actor) (u : ℕ) (content : Content) (e : CoreEvent) → asked_by_content j sender addressee u content ≡ Some e → Adds e ((by_message image plan past sender addressee u content).facts (actors.Core j))
    content_adds (actors.Core from) (actors.Core i) u (contents.Synod m) e is =
        let here = asked_here j i (happenings.Receive from u m) e is in
        subst (λ (e : CoreEvent). Adds e ((by_message image plan past (actors.Core from) (actors.Core i) u (contents.Synod m)).facts (actors.Core j))) here.1
        (by_row i u (λ k s. receive_row (core_plan_of plan) u from m s) (rows.receive (core_plan_of plan) u from m) here.0)
    content_adds (actors.Core from) (actors.Core i) u (contents.Submission item) e is = absurd (cc is)
    content_adds (actors.Core from) (actors.Core i) u (contents.Response above) e is = absurd (cc is)
    content_adds (actors.Core from) (actors.Aggregator k) u (contents.Synod m) e is = absurd (cc is)
    content_adds (actors.Core from) (actors.Aggregator k) u (contents.Submission item) e is = absurd (cc is)
    content_adds (actors.Core from) (actors.Aggregator k) u (contents.Response above) e is = absurd (cc is)
    content_adds (actors.Aggregator from) (actors.Core i) u (contents.Synod m) e is = absurd (cc is)
    content_adds (actors.Aggregator from) (actors.Core i) u (contents.Submission item) e is =
        let here = asked_here j i (happenings.Submission from u item) e is in
        subst (λ (e : CoreEvent). Adds e ((by_message image plan past (actors.Aggregator from) (actors.Core i) u (contents.Submission item)).facts (actors.Core j))) here.1
        (by_row i u (λ k s. submission_row from item s) (rows.submission from item) here.0)
    content_adds (actors.Aggregator from) (actors.Core i) u (contents.Response above) e is = absurd (cc is)
    content_adds (actors.Aggregator from) (actors.Aggregator k) u (contents.Synod m) e is = absurd (cc is)
    content_adds (actors.Aggregator from) (actors.Aggregator k) u (contents.Submission item) e is = absurd (cc is)
    content_adds (actors.Aggregator from) (actors.Aggregator k) u (contents.Response above) e is = absurd (cc is)

    message_adds : (m : Option Message) (e : CoreEvent) → asked_by_message j m ≡ Some e → Adds e ((by_delivery image plan past m).facts (actors.Core j))
    message_adds None e is = absurd (cc is)
    message_adds (Some m) e is = content_adds m.sender m.addressee m.second m.content e is

    event_adds : (event : Event) (e : CoreEvent) → asked_of j (wire_seen past) event ≡ Some e → Adds e ((step_by_facts image plan past event).facts (actors.Core j))
    unfolding step_by_facts
    event_adds (events.Request k u imprint name) e is = absurd (cc is)
    event_adds (events.Close k u) e is = absurd (cc is)
    event_adds (events.Seal i u) e is =
        let here = asked_here j i (happenings.Seal u) e is in
        subst (λ (e : CoreEvent). Adds e ((step_by_facts image plan past (events.Seal i u)).facts (actors.Core j))) here.1
        (by_row i u (λ k s. seal_row image s) rows.seal here.0)
    event_adds (events.Ballot i u) e is =
        let here = asked_here j i (happenings.Ballot u) e is in
        subst (λ (e : CoreEvent). Adds e ((step_by_facts image plan past (events.Ballot i u)).facts (actors.Core j))) here.1
        (by_row i u (λ k s. ballot_row (core_plan_of plan) u k s) (rows.ballot (core_plan_of plan) u j) here.0)
    event_adds (events.Deliver number) e is = message_adds (slice_get (wire_seen past) number) e is
    event_adds (events.Tell i u) e is =
        let here = asked_here j i (happenings.Tell u) e is in
        subst (λ (e : CoreEvent). Adds e ((step_by_facts image plan past (events.Tell i u)).facts (actors.Core j))) here.1
        (by_row i u (λ k s. tell_row (core_plan_of plan) u k s) (rows.tell (core_plan_of plan) u j) here.0)
    event_adds (events.Respond i u) e is =
        let here = asked_here j i (happenings.Respond u) e is in
        subst (λ (e : CoreEvent). Adds e ((step_by_facts image plan past (events.Respond i u)).facts (actors.Core j))) here.1
        (by_row i u (λ k s. respond_row image (held_seen past k) plan.start u s) (rows.respond (held_seen past j) plan.start u) here.0)
    event_adds (events.Publish i u) e is =
        let here = asked_here j i (happenings.Publish u) e is in
        subst (λ (e : CoreEvent). Adds e ((step_by_facts image plan past (events.Publish i u)).facts (actors.Core j))) here.1 refl
    event_adds (events.RestartCore i) e is = absurd (cc is)
    event_adds (events.RestartAggregator k) e is = absurd (cc is)

  -- AND NOTHING WHERE NOTHING IS ASKED

  content_adds_none : (sender addressee : Actor) (u : ℕ) (content : Content) → asked_by_content j sender addressee u content ≡ None → (by_message image plan past sender addressee u content).facts (actors.Core j) ≡ []
  content_adds_none (actors.Core from) (actors.Core i) u (contents.Synod m) is = others j i u _ (asked_there j i (happenings.Receive from u m) is)
  content_adds_none (actors.Core from) (actors.Core i) u (contents.Submission item) is = refl
  content_adds_none (actors.Core from) (actors.Core i) u (contents.Response above) is = refl
  content_adds_none (actors.Core from) (actors.Aggregator k) u (contents.Synod m) is = refl
  content_adds_none (actors.Core from) (actors.Aggregator k) u (contents.Submission item) is = refl
  content_adds_none (actors.Core from) (actors.Aggregator k) u (contents.Response above) is = refl
  content_adds_none (actors.Aggregator from) (actors.Core i) u (contents.Synod m) is = refl
  content_adds_none (actors.Aggregator from) (actors.Core i) u (contents.Submission item) is = others j i u _ (asked_there j i (happenings.Submission from u item) is)
  content_adds_none (actors.Aggregator from) (actors.Core i) u (contents.Response above) is = refl
  content_adds_none (actors.Aggregator from) (actors.Aggregator k) u (contents.Synod m) is = refl
  content_adds_none (actors.Aggregator from) (actors.Aggregator k) u (contents.Submission item) is = refl
  content_adds_none (actors.Aggregator from) (actors.Aggregator k) u (contents.Response above) is = refl

  message_adds_none : (m : Option Message) → asked_by_message j m ≡ None → (by_delivery image plan past m).facts (actors.Core j) ≡ []
  message_adds_none None is = refl
  message_adds_none (Some m) is = content_adds_none m.sender m.addressee m.second m.content is

  event_adds_none : (event : Event) → asked_of j (wire_seen past) event ≡ None → (step_by_facts image plan past event).facts (actors.Core j) ≡ []
  unfolding step_by_facts
  event_adds_none (events.Request k u imprint name) is = refl
  event_adds_none (events.Close k u) is = refl
  event_adds_none (events.Seal i u) is = others j i u _ (asked_there j i (happenings.Seal u) is)
  event_adds_none (events.Ballot i u) is = others j i u _ (asked_there j i (happenings.Ballot u) is)
  event_adds_none (events.Deliver number) is = message_adds_none (slice_get (wire_seen past) number) is
  event_adds_none (events.Tell i u) is = others j i u _ (asked_there j i (happenings.Tell u) is)
  event_adds_none (events.Respond i u) is = others j i u _ (asked_there j i (happenings.Respond u) is)
  event_adds_none (events.Publish i u) is = refl
  event_adds_none (events.RestartCore i) is = refl
  event_adds_none (events.RestartAggregator k) is = refl

-- THE FACTS OF A CORE

pub facts_first : (image : List ℕ → List ℕ) (plan : PlanState) (j : ℕ) → core_facts image plan [] j ≡ []
unfolding core_facts seen happened.deeds
facts_first image plan j = refl

module _ (image : List ℕ → List ℕ) (plan : PlanState) (before : List Event) (event : Event) (j : ℕ)
    (seen_is : after image plan before ≡ world_seen image plan (seen image plan before)) (step : IsStepByFacts image plan before event) where
  pub facts_asked : RowsStore image → (e : CoreEvent) → asked_of j (after image plan before).wire event ≡ Some e
      → core_facts image plan (before ++ event ∷ []) j ≡ with_new (core_facts image plan before j) (option_map (fact_of (event_second e)) (core_turn image plan (after image plan before) j e).fact)
  unfolding core_facts
  facts_asked rows e asked =
      let past = seen image plan before in
      let here : asked_of j (wire_seen past) event ≡ Some e = ap (λ (w : WorldState). asked_of j w.wire event) (sym seen_is) ∙ asked in
      ap in_order (step.facts (actors.Core j))
      ∙ ap (λ (deeds : List Deed). in_order (deeds ++ facts (actors.Core j) past)) (event_adds image plan past j rows event e here)
      ∙ in_order_more (event_second e) (core_turn image plan (world_seen image plan past) j e).fact (facts (actors.Core j) past)
      ∙ ap (λ (w : WorldState). with_new (in_order (facts (actors.Core j) past)) (option_map (fact_of (event_second e)) (core_turn image plan w j e).fact)) (sym seen_is)

  pub facts_unasked : asked_of j (after image plan before).wire event ≡ None → core_facts image plan (before ++ event ∷ []) j ≡ core_facts image plan before j
  unfolding core_facts
  facts_unasked asked =
      let past = seen image plan before in
      let here : asked_of j (wire_seen past) event ≡ None = ap (λ (w : WorldState). asked_of j w.wire event) (sym seen_is) ∙ asked in
      ap in_order (step.facts (actors.Core j))
      ∙ ap (λ (deeds : List Deed). in_order (deeds ++ facts (actors.Core j) past)) (event_adds_none image plan past j event here)

-- each event of a list of events is one
pub each_event : (plan : PlanState) (events : List Event) (k : ℕ) (other : Event) → AreEvents plan events → k < length events → IsEvent plan (get_or events k other)
each_event plan [] k other are lt = absurd (omega (arith, lt))
each_event plan (event ∷ events) zero other are lt = are.0
each_event plan (event ∷ events) (suc k) other are lt = each_event plan events k other are.1 (omega (arith, lt))

-- the world after an event more of a list
abbrev history_of : PlanState → List Event → History
history_of plan events = record { plan = plan; events = events }

pub happened_more : (plan : PlanState) (world : History) (events items : List Event) (k : ℕ) (event : Event) → world ≡ record { plan = plan; events = take k events } → items ≡ events → k < length items → event ≡ get_or items k event
    → with_event world event ≡ record { plan = plan; events = take (k + 1) events }
happened_more plan world events items k event so_far same lt is =
    let here : k < length events = subst (λ (es : List Event). k < length es) same lt in
    let item : event ≡ get_or events k event = is ∙ ap (λ (es : List Event). get_or es k event) same in
    let one : k + 1 ≡ suc k = omega arith in
    let next : take (k + 1) events ≡ take k events ++ event ∷ [] = ap (λ (n : ℕ). take n events) one ∙ take-suc events k event here ∙ ap (λ (e : Event). take k events ++ e ∷ []) (sym item) in
    ap (λ (h : History). with_event h event) so_far ∙ ap (history_of plan) (sym next)

pub happened_all : (plan : PlanState) (world : History) (events items : List Event) (k : ℕ) → world ≡ record { plan = plan; events = take k events } → items ≡ events → length items ≤ k → world ≡ record { plan = plan; events = events }
happened_all plan world events items k so_far same le =
    let past : length events ≤ k = subst (λ (es : List Event). length es ≤ k) same le in
    so_far ∙ ap (history_of plan) (take_all k events past)
