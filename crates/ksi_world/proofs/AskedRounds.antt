-- What an event asks of an aggregator makes its round what the event makes of it in the world.
use Rattle.std.proofs.Common.{◌≡◌, ℕ, ◌&&◌, eqb, Bool, true, false, if◌then◌else◌, List, length, refl, sym, ap, subst, ◌∙◌, Option, Some, None}
use Rattle.std.specs.Prelude.{slice_get}
use Rattle.std.proofs.lemmas.Bool.{eqb-true}
use Rattle.ksi_aggregator.specs.Rows.{RoundState, RoundTurn, round_request, round_submission, round_close, round_response, round_restarted}
use Rattle.ksi_aggregator.specs.declared.event.RoundEvent.{RoundEvent}
use Rattle.ksi_aggregator.specs.declared.event.RoundEvent.TheVariants as happenings
use Rattle.ksi_aggregator.specs.Events.{event_second}
use Rattle.ksi_schedule.specs.Plans.{PlanState}
use Rattle.ksi_schedule.specs.declared.actor.Actor.{Actor}
use Rattle.ksi_schedule.specs.declared.actor.Actor.TheVariants as actors
use Rattle.ksi_schedule.specs.declared.event.Event.{Event}
use Rattle.ksi_schedule.specs.declared.event.Event.TheVariants as events
use Rattle.ksi_world.specs.declared.message.Content.{Content}
use Rattle.ksi_world.specs.declared.message.Content.TheVariants as contents
use Rattle.ksi_world.specs.declared.message.Message.{Message}
use Rattle.ksi_world.specs.Histories.{WorldState, delivered, happens, put_at, taken}
use Rattle.ksi_world.specs.RoundEvents.{round_asked_by_content, round_asked_by_message, round_asked_of, is_restart_of_aggregator, round_turn, where_this}

pub asked_this : (k i : ℕ) (asked e : RoundEvent) → where_this k i asked ≡ Some e → (eqb k i ≡ true) × (asked ≡ e)
asked_this k i asked e is = by (eqb k i) refl is
  where
    by : (b : Bool) → eqb k i ≡ b → (if b then Some asked else None) ≡ Some e → (eqb k i ≡ true) × (asked ≡ e)
    by true here is = (here, cc is)
    by false here is = absurd (cc is)

asked_other : (k i : ℕ) (asked : RoundEvent) → where_this k i asked ≡ None → eqb k i ≡ false
asked_other k i asked is = by (eqb k i) is
  where
    by : (b : Bool) → (if b then Some asked else None) ≡ None → b ≡ false
    by true is = absurd (cc is)
    by false is = refl

-- the own round, and those of others
own_round : (f : ℕ → ℕ → RoundState) (i k u t : ℕ) (row : ℕ → RoundTurn) → eqb k i ≡ true → put_at f i u (row i).after k t ≡ (if eqb t u then (row k).after else f k t)
own_round f i k u t row here =
    ap (λ (b : Bool). if b && eqb t u then (row i).after else f k t) here
    ∙ ap (λ (j : ℕ). if eqb t u then (row j).after else f k t) (sym (eqb-true k i here))

others_round : (f : ℕ → ℕ → RoundState) (i k u t : ℕ) (new : RoundState) → eqb k i ≡ false → put_at f i u new k t ≡ f k t
others_round f i k u t new there = ap (λ (b : Bool). if b && eqb t u then new else f k t) there

module _ (image : List ℕ → List ℕ) (plan : PlanState) (w : WorldState) (k : ℕ) where
  -- what a turn leaves of the rounds of aggregator k
  abbrev Turned : RoundEvent → (ℕ → RoundState) → Type 0
  Turned e rounds = (t : ℕ) → rounds t ≡ (if eqb t (event_second e) then (round_turn image w k e).after else w.rounds k t)

  -- a row of a round, where the event asks for it
  by_row : (i u : ℕ) (asked e : RoundEvent) (row : RoundState → RoundTurn) → event_second asked ≡ u → where_this k i asked ≡ Some e
      → round_turn image w k asked ≡ row (w.rounds k u) → Turned e (put_at w.rounds i u (row (w.rounds i u)).after k)
  by_row i u asked e row second is turn = λ t.
      let here = asked_this k i asked e is in
      subst (λ (e : RoundEvent). put_at w.rounds i u (row (w.rounds i u)).after k t ≡ (if eqb t (event_second e) then (round_turn image w k e).after else w.rounds k t)) here.1
      (own_round w.rounds i k u t (λ j. row (w.rounds j u)) here.0
      ∙ ap (λ (s : ℕ). if eqb t s then (row (w.rounds k u)).after else w.rounds k t) (sym second)
      ∙ ap (λ (x : RoundTurn). if eqb t (event_second asked) then x.after else w.rounds k t) (sym turn))

  taken_turned : (sender addressee : Actor) (u : ℕ) (content : Content) (e : RoundEvent) → round_asked_by_content k sender addressee u content ≡ Some e → Turned e ((taken image plan w sender addressee u content).world.rounds k)
  taken_turned (actors.Core from) (actors.Core i) u (contents.Synod m) e is = absurd (cc is)
  taken_turned (actors.Core from) (actors.Core i) u (contents.Submission item) e is = absurd (cc is)
  taken_turned (actors.Core from) (actors.Core i) u (contents.Response above) e is = absurd (cc is)
  taken_turned (actors.Core from) (actors.Aggregator i) u (contents.Synod m) e is = absurd (cc is)
  taken_turned (actors.Core from) (actors.Aggregator i) u (contents.Submission item) e is = absurd (cc is)
  taken_turned (actors.Core from) (actors.Aggregator i) u (contents.Response above) e is = by_row i u (happenings.Response u above) e (round_response image above) refl is refl
  taken_turned (actors.Aggregator from) (actors.Core i) u (contents.Synod m) e is = absurd (cc is)
  taken_turned (actors.Aggregator from) (actors.Core i) u (contents.Submission item) e is = absurd (cc is)
  taken_turned (actors.Aggregator from) (actors.Core i) u (contents.Response above) e is = absurd (cc is)
  taken_turned (actors.Aggregator from) (actors.Aggregator i) u (contents.Synod m) e is = absurd (cc is)
  taken_turned (actors.Aggregator from) (actors.Aggregator i) u (contents.Submission item) e is = by_row i u (happenings.Submission from u item) e (round_submission from item) refl is refl
  taken_turned (actors.Aggregator from) (actors.Aggregator i) u (contents.Response above) e is = by_row i u (happenings.Response u above) e (round_response image above) refl is refl

  delivered_turned : (m : Option Message) (e : RoundEvent) → round_asked_by_message k m ≡ Some e → Turned e ((delivered image plan w m).world.rounds k)
  delivered_turned None e is = absurd (cc is)
  delivered_turned (Some m) e is = taken_turned m.sender m.addressee m.second m.content e is

  -- the round that an event asks for is turned, and the others stay
  pub round_turned_so : (event : Event) (e : RoundEvent) → round_asked_of k w event ≡ Some e → Turned e ((happens image plan w event).world.rounds k)
  unfolding happens
  round_turned_so (events.Request i u imprint name) e is = by_row i u (happenings.Request (length w.requests) u imprint name) e (round_request (length w.requests) imprint name) refl is refl
  round_turned_so (events.Close i u) e is = by_row i u (happenings.Close u) e (round_close image) refl is refl
  round_turned_so (events.Seal i u) e is = absurd (cc is)
  round_turned_so (events.Ballot i u) e is = absurd (cc is)
  round_turned_so (events.Deliver number) e is = delivered_turned (slice_get w.wire number) e is
  round_turned_so (events.Tell i u) e is = absurd (cc is)
  round_turned_so (events.Respond i u) e is = absurd (cc is)
  round_turned_so (events.Publish i u) e is = absurd (cc is)
  round_turned_so (events.RestartCore i) e is = absurd (cc is)
  round_turned_so (events.RestartAggregator i) e is = absurd (cc is)

  -- NOTHING IS ASKED

  taken_left : (sender addressee : Actor) (u : ℕ) (content : Content) → round_asked_by_content k sender addressee u content ≡ None → (t : ℕ) → (taken image plan w sender addressee u content).world.rounds k t ≡ w.rounds k t
  taken_left (actors.Core from) (actors.Core i) u (contents.Synod m) is t = refl
  taken_left (actors.Core from) (actors.Core i) u (contents.Submission item) is t = refl
  taken_left (actors.Core from) (actors.Core i) u (contents.Response above) is t = refl
  taken_left (actors.Core from) (actors.Aggregator i) u (contents.Synod m) is t = refl
  taken_left (actors.Core from) (actors.Aggregator i) u (contents.Submission item) is t = refl
  taken_left (actors.Core from) (actors.Aggregator i) u (contents.Response above) is t = others_round w.rounds i k u t (round_response image above (w.rounds i u)).after (asked_other k i (happenings.Response u above) is)
  taken_left (actors.Aggregator from) (actors.Core i) u (contents.Synod m) is t = refl
  taken_left (actors.Aggregator from) (actors.Core i) u (contents.Submission item) is t = refl
  taken_left (actors.Aggregator from) (actors.Core i) u (contents.Response above) is t = refl
  taken_left (actors.Aggregator from) (actors.Aggregator i) u (contents.Synod m) is t = refl
  taken_left (actors.Aggregator from) (actors.Aggregator i) u (contents.Submission item) is t = others_round w.rounds i k u t (round_submission from item (w.rounds i u)).after (asked_other k i (happenings.Submission from u item) is)
  taken_left (actors.Aggregator from) (actors.Aggregator i) u (contents.Response above) is t = others_round w.rounds i k u t (round_response image above (w.rounds i u)).after (asked_other k i (happenings.Response u above) is)

  delivered_left : (m : Option Message) → round_asked_by_message k m ≡ None → (t : ℕ) → (delivered image plan w m).world.rounds k t ≡ w.rounds k t
  delivered_left None is t = refl
  delivered_left (Some m) is t = taken_left m.sender m.addressee m.second m.content is t

  pub round_left : (event : Event) → round_asked_of k w event ≡ None → is_restart_of_aggregator k event ≡ false → (t : ℕ) → (happens image plan w event).world.rounds k t ≡ w.rounds k t
  unfolding happens
  round_left (events.Request i u imprint name) is other t =
      others_round w.rounds i k u t (round_request (length w.requests) imprint name (w.rounds i u)).after (asked_other k i (happenings.Request (length w.requests) u imprint name) is)
  round_left (events.Close i u) is other t = others_round w.rounds i k u t (round_close image (w.rounds i u)).after (asked_other k i (happenings.Close u) is)
  round_left (events.Seal i u) is other t = refl
  round_left (events.Ballot i u) is other t = refl
  round_left (events.Deliver number) is other t = delivered_left (slice_get w.wire number) is t
  round_left (events.Tell i u) is other t = refl
  round_left (events.Respond i u) is other t = refl
  round_left (events.Publish i u) is other t = refl
  round_left (events.RestartCore i) is other t = refl
  round_left (events.RestartAggregator i) is other t = ap (λ (b : Bool). if b then round_restarted (w.rounds k t) else w.rounds k t) other

  pub round_restarts : (event : Event) → is_restart_of_aggregator k event ≡ true → (t : ℕ) → (happens image plan w event).world.rounds k t ≡ round_restarted (w.rounds k t)
  unfolding happens
  round_restarts (events.Request i u imprint name) is t = absurd (cc is)
  round_restarts (events.Close i u) is t = absurd (cc is)
  round_restarts (events.Seal i u) is t = absurd (cc is)
  round_restarts (events.Ballot i u) is t = absurd (cc is)
  round_restarts (events.Deliver number) is t = absurd (cc is)
  round_restarts (events.Tell i u) is t = absurd (cc is)
  round_restarts (events.Respond i u) is t = absurd (cc is)
  round_restarts (events.Publish i u) is t = absurd (cc is)
  round_restarts (events.RestartCore i) is t = absurd (cc is)
  round_restarts (events.RestartAggregator i) is t = ap (λ (b : Bool). if b then round_restarted (w.rounds k t) else w.rounds k t) is
