-- The facts of an aggregator after an event more.
use Rattle.std.proofs.Common.{◌≡◌, ℕ, eqb, Bool, true, false, if◌then◌else◌, List, [], ◌∷◌, ◌++◌, length, map, option_map, refl, sym, ap, subst, ◌∙◌, Option, Some, None}
use Rattle.std.specs.Prelude.{slice_get}
use Rattle.std.proofs.lemmas.Bool.{eqb-true}
use Rattle.ksi_aggtree.specs.declared.item.Item.{Item}
use Rattle.ksi_signature.specs.declared.above.Above.{Above}
use Rattle.ksi_aggregator.specs.declared.event.RoundEvent.{RoundEvent}
use Rattle.ksi_aggregator.specs.declared.event.RoundEvent.TheVariants as happenings
use Rattle.ksi_aggregator.specs.declared.fact.RoundFact.{RoundFact}
use Rattle.ksi_aggregator.specs.declared.fact.RoundFact.TheVariants as stored
use Rattle.ksi_aggregator.specs.Events.{event_second}
use Rattle.ksi_aggregator.specs.Rounds.{fact_of}
use Rattle.ksi_aggregator.specs.Rows.{RoundState, RoundTurn, round_request, round_submission, round_close, round_response}
use Rattle.ksi_aggregator.specs.Lawful.{with_new}
use Rattle.ksi_schedule.specs.Plans.{PlanState}
use Rattle.ksi_schedule.specs.declared.actor.Actor.{Actor}
use Rattle.ksi_schedule.specs.declared.actor.Actor.TheVariants as actors
use Rattle.ksi_schedule.specs.declared.event.Event.{Event}
use Rattle.ksi_schedule.specs.declared.event.Event.TheVariants as events
use Rattle.ksi_world.specs.declared.message.Content.{Content}
use Rattle.ksi_world.specs.declared.message.Content.TheVariants as contents
use Rattle.ksi_world.specs.declared.message.Message.{Message}
use Rattle.ksi_world.specs.Histories.{WorldState, after}
use Rattle.ksi_world.specs.RoundEvents.{round_asked_by_content, round_asked_by_message, round_asked_of, round_turn, where_this}
use Rattle.ksi_laws_facts.specs.Seen.{Seen, seen}
use Rattle.ksi_laws_facts.specs.Deeds.{Act, Deed, Did, facts, own}
use Rattle.ksi_laws_facts.specs.Deeds as happened
use Rattle.ksi_laws_facts.specs.State.{round_seen, requests_seen, wire_seen, world_seen}
use Rattle.ksi_laws_facts.specs.Steps.{IsStepByFacts, by_delivery, by_message, new_round_facts, step_by_facts}
use Rattle.ksi_laws_facts.specs.Stored.{RoundAddsStored, round_act, round_acts}
use Rattle.ksi_laws_crashed.specs.RoundFacts.{in_order, round_facts}

pub asked_here : (k i : ℕ) (asked e : RoundEvent) → where_this k i asked ≡ Some e → (eqb k i ≡ true) × (asked ≡ e)
asked_here k i asked e is = by (eqb k i) refl is
  where
    by : (b : Bool) → eqb k i ≡ b → (if b then Some asked else None) ≡ Some e → (eqb k i ≡ true) × (asked ≡ e)
    by true here is = (here, cc is)
    by false here is = absurd (cc is)

asked_there : (k i : ℕ) (asked : RoundEvent) → where_this k i asked ≡ None → eqb k i ≡ false
asked_there k i asked is = by (eqb k i) is
  where
    by : (b : Bool) → (if b then Some asked else None) ≡ None → b ≡ false
    by true is = absurd (cc is)
    by false is = refl

-- IN ORDER

in_order_one : (t : ℕ) (what : RoundFact) (older : List Deed) → in_order (Did t (round_act what) ∷ older) ≡ in_order older ++ fact_of t what ∷ []
in_order_one t (stored.Closed items) older = refl
in_order_one t (stored.Answered above) older = refl

in_order_more : (t : ℕ) (fact : Option RoundFact) (older : List Deed) → in_order (map (Did t) (round_acts fact) ++ older) ≡ with_new (in_order older) (option_map (fact_of t) fact)
in_order_more t None older = refl
in_order_more t (Some what) older = in_order_one t what older

-- WHAT AN EVENT ADDS

-- what each row adds is what it stores
pub record RowsStore (image : List ℕ → List ℕ) : Type 0 where
  pub request : (number : ℕ) (imprint : List ℕ) (name : Option (List ℕ)) (r : RoundState) → RoundAddsStored r (round_request number imprint name r)
  pub item : (from : ℕ) (item : Item) (r : RoundState) → RoundAddsStored r (round_submission from item r)
  pub close : (r : RoundState) → RoundAddsStored r (round_close image r)
  pub response : (above : Above) (r : RoundState) → RoundAddsStored r (round_response image above r)

mine : (k i u : ℕ) (acts : ℕ → List Act) → eqb k i ≡ true → own (actors.Aggregator k) (actors.Aggregator i) u (acts i) ≡ map (Did u) (acts k)
mine k i u acts here =
    ap (λ (b : Bool). if b then map (Did u) (acts i) else []) here
    ∙ ap (λ (j : ℕ). map (Did u) (acts j)) (sym (eqb-true k i here))

others : (k i u : ℕ) (acts : List Act) → eqb k i ≡ false → own (actors.Aggregator k) (actors.Aggregator i) u acts ≡ []
others k i u acts there = ap (λ (b : Bool). if b then map (Did u) acts else []) there

module _ (image : List ℕ → List ℕ) (plan : PlanState) (past : List Seen) (k : ℕ) where
  -- aggregator k adds what its turn stores
  abbrev Adds : RoundEvent → List Deed → Type 0
  Adds e deeds = deeds ≡ map (Did (event_second e)) (round_acts (round_turn image (world_seen image plan past) k e).fact)

  by_row : (i u : ℕ) (asked e : RoundEvent) (row : RoundState → RoundTurn) → ((r : RoundState) → RoundAddsStored r (row r)) → event_second asked ≡ u → round_turn image (world_seen image plan past) k asked ≡ row (round_seen past k u)
      → where_this k i asked ≡ Some e → Adds e (own (actors.Aggregator k) (actors.Aggregator i) u (new_round_facts (round_seen past i u) (row (round_seen past i u)).after))
  by_row i u asked e row stores second turn is =
      let here = asked_here k i asked e is in
      subst (λ (e : RoundEvent). Adds e (own (actors.Aggregator k) (actors.Aggregator i) u (new_round_facts (round_seen past i u) (row (round_seen past i u)).after))) here.1
      (mine k i u (λ j. new_round_facts (round_seen past j u) (row (round_seen past j u)).after) here.0
      ∙ ap (λ (acts : List Act). map (Did u) acts) (stores (round_seen past k u))
      ∙ (λ n. map (Did (sym second n)) (round_acts (sym turn n).fact)))

  module _ (rows : RowsStore image) where
    content_adds : (sender addressee : Actor) (u : ℕ) (content : Content) (e : RoundEvent) → round_asked_by_content k sender addressee u content ≡ Some e → Adds e ((by_message image plan past sender addressee u content).facts (actors.Aggregator k))
    content_adds (actors.Core from) (actors.Core i) u (contents.Synod m) e is = absurd (cc is)
    content_adds (actors.Core from) (actors.Core i) u (contents.Submission item) e is = absurd (cc is)
    content_adds (actors.Core from) (actors.Core i) u (contents.Response above) e is = absurd (cc is)
    content_adds (actors.Core from) (actors.Aggregator i) u (contents.Synod m) e is = absurd (cc is)
    content_adds (actors.Core from) (actors.Aggregator i) u (contents.Submission item) e is = absurd (cc is)
    content_adds (actors.Core from) (actors.Aggregator i) u (contents.Response above) e is = by_row i u (happenings.Response u above) e (round_response image above) (rows.response above) refl refl is
    content_adds (actors.Aggregator from) (actors.Core i) u (contents.Synod m) e is = absurd (cc is)
    content_adds (actors.Aggregator from) (actors.Core i) u (contents.Submission item) e is = absurd (cc is)
    content_adds (actors.Aggregator from) (actors.Core i) u (contents.Response above) e is = absurd (cc is)
    content_adds (actors.Aggregator from) (actors.Aggregator i) u (contents.Synod m) e is = absurd (cc is)
    content_adds (actors.Aggregator from) (actors.Aggregator i) u (contents.Submission item) e is = by_row i u (happenings.Submission from u item) e (round_submission from item) (rows.item from item) refl refl is
    content_adds (actors.Aggregator from) (actors.Aggregator i) u (contents.Response above) e is = by_row i u (happenings.Response u above) e (round_response image above) (rows.response above) refl refl is

    message_adds : (m : Option Message) (e : RoundEvent) → round_asked_by_message k m ≡ Some e → Adds e ((by_delivery image plan past m).facts (actors.Aggregator k))
    message_adds None e is = absurd (cc is)
    message_adds (Some m) e is = content_adds m.sender m.addressee m.second m.content e is

    event_adds : (event : Event) (e : RoundEvent) → round_asked_of k (world_seen image plan past) event ≡ Some e → Adds e ((step_by_facts image plan past event).facts (actors.Aggregator k))
    unfolding step_by_facts
    event_adds (events.Request i u imprint name) e is =
        by_row i u (happenings.Request (length (requests_seen past)) u imprint name) e (round_request (length (requests_seen past)) imprint name) (rows.request (length (requests_seen past)) imprint name) refl refl is
    event_adds (events.Close i u) e is = by_row i u (happenings.Close u) e (round_close image) rows.close refl refl is
    event_adds (events.Seal i u) e is = absurd (cc is)
    event_adds (events.Ballot i u) e is = absurd (cc is)
    event_adds (events.Deliver number) e is = message_adds (slice_get (wire_seen past) number) e is
    event_adds (events.Tell i u) e is = absurd (cc is)
    event_adds (events.Respond i u) e is = absurd (cc is)
    event_adds (events.Publish i u) e is = absurd (cc is)
    event_adds (events.RestartCore i) e is = absurd (cc is)
    event_adds (events.RestartAggregator i) e is = absurd (cc is)

  -- AND NOTHING WHERE NOTHING IS ASKED

  content_adds_none : (sender addressee : Actor) (u : ℕ) (content : Content) → round_asked_by_content k sender addressee u content ≡ None → (by_message image plan past sender addressee u content).facts (actors.Aggregator k) ≡ []
  content_adds_none (actors.Core from) (actors.Core i) u (contents.Synod m) is = refl
  content_adds_none (actors.Core from) (actors.Core i) u (contents.Submission item) is = refl
  content_adds_none (actors.Core from) (actors.Core i) u (contents.Response above) is = refl
  content_adds_none (actors.Core from) (actors.Aggregator i) u (contents.Synod m) is = refl
  content_adds_none (actors.Core from) (actors.Aggregator i) u (contents.Submission item) is = refl
  content_adds_none (actors.Core from) (actors.Aggregator i) u (contents.Response above) is = others k i u _ (asked_there k i (happenings.Response u above) is)
  content_adds_none (actors.Aggregator from) (actors.Core i) u (contents.Synod m) is = refl
  content_adds_none (actors.Aggregator from) (actors.Core i) u (contents.Submission item) is = refl
  content_adds_none (actors.Aggregator from) (actors.Core i) u (contents.Response above) is = refl
  content_adds_none (actors.Aggregator from) (actors.Aggregator i) u (contents.Synod m) is = refl
  content_adds_none (actors.Aggregator from) (actors.Aggregator i) u (contents.Submission item) is = others k i u _ (asked_there k i (happenings.Submission from u item) is)
  content_adds_none (actors.Aggregator from) (actors.Aggregator i) u (contents.Response above) is = others k i u _ (asked_there k i (happenings.Response u above) is)

  message_adds_none : (m : Option Message) → round_asked_by_message k m ≡ None → (by_delivery image plan past m).facts (actors.Aggregator k) ≡ []
  message_adds_none None is = refl
  message_adds_none (Some m) is = content_adds_none m.sender m.addressee m.second m.content is

  event_adds_none : (event : Event) → round_asked_of k (world_seen image plan past) event ≡ None → (step_by_facts image plan past event).facts (actors.Aggregator k) ≡ []
  unfolding step_by_facts
  event_adds_none (events.Request i u imprint name) is = others k i u _ (asked_there k i (happenings.Request (length (requests_seen past)) u imprint name) is)
  event_adds_none (events.Close i u) is = others k i u _ (asked_there k i (happenings.Close u) is)
  event_adds_none (events.Seal i u) is = refl
  event_adds_none (events.Ballot i u) is = refl
  event_adds_none (events.Deliver number) is = message_adds_none (slice_get (wire_seen past) number) is
  event_adds_none (events.Tell i u) is = refl
  event_adds_none (events.Respond i u) is = refl
  event_adds_none (events.Publish i u) is = refl
  event_adds_none (events.RestartCore i) is = refl
  event_adds_none (events.RestartAggregator i) is = refl

-- THE FACTS OF AN AGGREGATOR

pub facts_first : (image : List ℕ → List ℕ) (plan : PlanState) (k : ℕ) → round_facts image plan [] k ≡ []
unfolding round_facts seen happened.deeds
facts_first image plan k = refl

module _ (image : List ℕ → List ℕ) (plan : PlanState) (before : List Event) (event : Event) (k : ℕ)
    (seen_is : after image plan before ≡ world_seen image plan (seen image plan before)) (step : IsStepByFacts image plan before event) where
  pub facts_asked : RowsStore image → (e : RoundEvent) → round_asked_of k (after image plan before) event ≡ Some e
      → round_facts image plan (before ++ event ∷ []) k ≡ with_new (round_facts image plan before k) (option_map (fact_of (event_second e)) (round_turn image (after image plan before) k e).fact)
  unfolding round_facts
  facts_asked rows e asked =
      let past = seen image plan before in
      let here : round_asked_of k (world_seen image plan past) event ≡ Some e = ap (λ (w : WorldState). round_asked_of k w event) (sym seen_is) ∙ asked in
      ap in_order (step.facts (actors.Aggregator k))
      ∙ ap (λ (deeds : List Deed). in_order (deeds ++ facts (actors.Aggregator k) past)) (event_adds image plan past k rows event e here)
      ∙ in_order_more (event_second e) (round_turn image (world_seen image plan past) k e).fact (facts (actors.Aggregator k) past)
      ∙ ap (λ (w : WorldState). with_new (in_order (facts (actors.Aggregator k) past)) (option_map (fact_of (event_second e)) (round_turn image w k e).fact)) (sym seen_is)

  pub facts_unasked : round_asked_of k (after image plan before) event ≡ None → round_facts image plan (before ++ event ∷ []) k ≡ round_facts image plan before k
  unfolding round_facts
  facts_unasked asked =
      let past = seen image plan before in
      let here : round_asked_of k (world_seen image plan past) event ≡ None = ap (λ (w : WorldState). round_asked_of k w event) (sym seen_is) ∙ asked in
      ap in_order (step.facts (actors.Aggregator k))
      ∙ ap (λ (deeds : List Deed). in_order (deeds ++ facts (actors.Aggregator k) past)) (event_adds_none image plan past k event here)
