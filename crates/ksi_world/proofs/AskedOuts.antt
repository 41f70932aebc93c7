-- What an event that asks something of an aggregator sends, and that it asks nothing of the other nodes.
use Rattle.std.proofs.Common.{◌≡◌, ℕ, ◌++◌, eqb, Bool, true, false, if◌then◌else◌, List, length, refl, sym, ap, subst, ◌∙◌, Option, Some, None}
use Rattle.std.specs.Prelude.{map, slice_get, ◌≢◌}
use Rattle.std.proofs.lemmas.Bool.{eqb-true}
use Rattle.ksi_aggregator.specs.Rows.{RoundState, RoundTurn, round_request, round_submission, round_close, round_response}
use Rattle.ksi_aggregator.specs.declared.event.RoundEvent.{RoundEvent}
use Rattle.ksi_aggregator.specs.declared.event.RoundEvent.TheVariants as happenings
use Rattle.ksi_aggregator.specs.Events.{event_second}
use Rattle.ksi_corenode.specs.declared.event.CoreEvent.{CoreEvent}
use Rattle.ksi_schedule.specs.Plans.{PlanState}
use Rattle.ksi_schedule.specs.declared.actor.Actor.{Actor}
use Rattle.ksi_schedule.specs.declared.actor.Actor.TheVariants as actors
use Rattle.ksi_schedule.specs.declared.event.Event.{Event}
use Rattle.ksi_schedule.specs.declared.event.Event.TheVariants as events
use Rattle.ksi_world.specs.declared.message.Content.{Content}
use Rattle.ksi_world.specs.declared.message.Content.TheVariants as contents
use Rattle.ksi_world.specs.declared.message.Message.{Message}
use Rattle.ksi_world.specs.Histories.{WorldState, delivered, happens, round_message, taken}
use Rattle.ksi_world.specs.CoreEvents.{asked_by_content, asked_by_message, asked_of, is_restart_of}
use Rattle.ksi_world.specs.RoundEvents.{round_asked_by_content, round_asked_by_message, round_asked_of, is_restart_of_aggregator, round_turn, where_this}
use Rattle.ksi_world.proofs.AskedRounds.{asked_this}

module _ (image : List ℕ → List ℕ) (plan : PlanState) (w : WorldState) (k : ℕ) where
  -- the wire with what the turn of aggregator k sends
  abbrev Sent : RoundEvent → List Message → Type 0
  Sent e wire = wire ≡ w.wire ++ map (round_message plan k (event_second e)) (round_turn image w k e).sends

  -- a row of a round, where the event asks for it
  by_row : (i u : ℕ) (asked e : RoundEvent) (row : RoundState → RoundTurn) → event_second asked ≡ u → where_this k i asked ≡ Some e
      → round_turn image w k asked ≡ row (w.rounds k u) → Sent e (w.wire ++ map (round_message plan i u) (row (w.rounds i u)).sends)
  by_row i u asked e row second is turn =
      let here = asked_this k i asked e is in
      subst (λ (e : RoundEvent). Sent e (w.wire ++ map (round_message plan i u) (row (w.rounds i u)).sends)) here.1
      (ap (λ (j : ℕ). w.wire ++ map (round_message plan j u) (row (w.rounds j u)).sends) (sym (eqb-true k i here.0))
      ∙ ap (λ (s : ℕ). w.wire ++ map (round_message plan k s) (row (w.rounds k u)).sends) (sym second)
      ∙ ap (λ (x : RoundTurn). w.wire ++ map (round_message plan k (event_second asked)) x.sends) (sym turn))

  taken_sent : (sender addressee : Actor) (u : ℕ) (content : Content) (e : RoundEvent) → round_asked_by_content k sender addressee u content ≡ Some e → Sent e (taken image plan w sender addressee u content).world.wire
  taken_sent (actors.Core from) (actors.Core i) u (contents.Synod m) e is = absurd (cc is)
  taken_sent (actors.Core from) (actors.Core i) u (contents.Submission item) e is = absurd (cc is)
  taken_sent (actors.Core from) (actors.Core i) u (contents.Response above) e is = absurd (cc is)
  taken_sent (actors.Core from) (actors.Aggregator i) u (contents.Synod m) e is = absurd (cc is)
  taken_sent (actors.Core from) (actors.Aggregator i) u (contents.Submission item) e is = absurd (cc is)
  taken_sent (actors.Core from) (actors.Aggregator i) u (contents.Response above) e is = by_row i u (happenings.Response u above) e (round_response image above) refl is refl
  taken_sent (actors.Aggregator from) (actors.Core i) u (contents.Synod m) e is = absurd (cc is)
  taken_sent (actors.Aggregator from) (actors.Core i) u (contents.Submission item) e is = absurd (cc is)
  taken_sent (actors.Aggregator from) (actors.Core i) u (contents.Response above) e is = absurd (cc is)
  taken_sent (actors.Aggregator from) (actors.Aggregator i) u (contents.Synod m) e is = absurd (cc is)
  taken_sent (actors.Aggregator from) (actors.Aggregator i) u (contents.Submission item) e is = by_row i u (happenings.Submission from u item) e (round_submission from item) refl is refl
  taken_sent (actors.Aggregator from) (actors.Aggregator i) u (contents.Response above) e is = by_row i u (happenings.Response u above) e (round_response image above) refl is refl

  delivered_sent : (m : Option Message) (e : RoundEvent) → round_asked_by_message k m ≡ Some e → Sent e (delivered image plan w m).world.wire
  delivered_sent None e is = absurd (cc is)
  delivered_sent (Some m) e is = taken_sent m.sender m.addressee m.second m.content e is

  -- behind all that was sent before stands what the turn sends
  pub round_sent : (event : Event) (e : RoundEvent) → round_asked_of k w event ≡ Some e → Sent e (happens image plan w event).world.wire
  unfolding happens
  round_sent (events.Request i u imprint name) e is = by_row i u (happenings.Request (length w.requests) u imprint name) e (round_request (length w.requests) imprint name) refl is refl
  round_sent (events.Close i u) e is = by_row i u (happenings.Close u) e (round_close image) refl is refl
  round_sent (events.Seal i u) e is = absurd (cc is)
  round_sent (events.Ballot i u) e is = absurd (cc is)
  round_sent (events.Deliver number) e is = delivered_sent (slice_get w.wire number) e is
  round_sent (events.Tell i u) e is = absurd (cc is)
  round_sent (events.Respond i u) e is = absurd (cc is)
  round_sent (events.Publish i u) e is = absurd (cc is)
  round_sent (events.RestartCore i) e is = absurd (cc is)
  round_sent (events.RestartAggregator i) e is = absurd (cc is)

-- THE OTHER AGGREGATORS

not_this : (k j i : ℕ) (asked e : RoundEvent) → where_this k i asked ≡ Some e → j ≢ k → where_this j i asked ≡ None
not_this k j i asked e is other = by (eqb j i) refl
  where
    by : (b : Bool) → eqb j i ≡ b → (if b then Some asked else None) ≡ None
    by true here = absurd (other (eqb-true j i here ∙ sym (eqb-true k i (asked_this k i asked e is).0)))
    by false there = refl

content_not_this : (k j : ℕ) (sender addressee : Actor) (u : ℕ) (content : Content) (e : RoundEvent) → round_asked_by_content k sender addressee u content ≡ Some e → j ≢ k → round_asked_by_content j sender addressee u content ≡ None
content_not_this k j (actors.Core from) (actors.Core i) u (contents.Synod m) e is other = refl
content_not_this k j (actors.Core from) (actors.Core i) u (contents.Submission item) e is other = refl
content_not_this k j (actors.Core from) (actors.Core i) u (contents.Response above) e is other = refl
content_not_this k j (actors.Core from) (actors.Aggregator i) u (contents.Synod m) e is other = refl
content_not_this k j (actors.Core from) (actors.Aggregator i) u (contents.Submission item) e is other = refl
content_not_this k j (actors.Core from) (actors.Aggregator i) u (contents.Response above) e is other = not_this k j i (happenings.Response u above) e is other
content_not_this k j (actors.Aggregator from) (actors.Core i) u (contents.Synod m) e is other = refl
content_not_this k j (actors.Aggregator from) (actors.Core i) u (contents.Submission item) e is other = refl
content_not_this k j (actors.Aggregator from) (actors.Core i) u (contents.Response above) e is other = refl
content_not_this k j (actors.Aggregator from) (actors.Aggregator i) u (contents.Synod m) e is other = refl
content_not_this k j (actors.Aggregator from) (actors.Aggregator i) u (contents.Submission item) e is other = not_this k j i (happenings.Submission from u item) e is other
content_not_this k j (actors.Aggregator from) (actors.Aggregator i) u (contents.Response above) e is other = not_this k j i (happenings.Response u above) e is other

message_not_this : (k j : ℕ) (m : Option Message) (e : RoundEvent) → round_asked_by_message k m ≡ Some e → j ≢ k → round_asked_by_message j m ≡ None
message_not_this k j None e is other = refl
message_not_this k j (Some m) e is other = content_not_this k j m.sender m.addressee m.second m.content e is other

-- what asks something of an aggregator asks nothing of another, and restarts none
pub round_not_this : (k j : ℕ) (w : WorldState) (event : Event) (e : RoundEvent) → round_asked_of k w event ≡ Some e → j ≢ k → (round_asked_of j w event ≡ None) × (is_restart_of_aggregator j event ≡ false)
round_not_this k j w (events.Request i u imprint name) e is other = (not_this k j i (happenings.Request (length w.requests) u imprint name) e is other, refl)
round_not_this k j w (events.Close i u) e is other = (not_this k j i (happenings.Close u) e is other, refl)
round_not_this k j w (events.Seal i u) e is other = (refl, refl)
round_not_this k j w (events.Ballot i u) e is other = (refl, refl)
round_not_this k j w (events.Deliver number) e is other = (message_not_this k j (slice_get w.wire number) e is other, refl)
round_not_this k j w (events.Tell i u) e is other = (refl, refl)
round_not_this k j w (events.Respond i u) e is other = (refl, refl)
round_not_this k j w (events.Publish i u) e is other = (refl, refl)
round_not_this k j w (events.RestartCore i) e is other = (refl, refl)
round_not_this k j w (events.RestartAggregator i) e is other = absurd (cc is)

-- THE CORES

content_no_core : (k j : ℕ) (sender addressee : Actor) (u : ℕ) (content : Content) (e : RoundEvent) → round_asked_by_content k sender addressee u content ≡ Some e → asked_by_content j sender addressee u content ≡ None
content_no_core k j (actors.Core from) (actors.Core i) u (contents.Synod m) e is = absurd (cc is)
content_no_core k j (actors.Core from) (actors.Core i) u (contents.Submission item) e is = refl
content_no_core k j (actors.Core from) (actors.Core i) u (contents.Response above) e is = refl
content_no_core k j (actors.Core from) (actors.Aggregator i) u (contents.Synod m) e is = refl
content_no_core k j (actors.Core from) (actors.Aggregator i) u (contents.Submission item) e is = refl
content_no_core k j (actors.Core from) (actors.Aggregator i) u (contents.Response above) e is = refl
content_no_core k j (actors.Aggregator from) (actors.Core i) u (contents.Synod m) e is = refl
content_no_core k j (actors.Aggregator from) (actors.Core i) u (contents.Submission item) e is = absurd (cc is)
content_no_core k j (actors.Aggregator from) (actors.Core i) u (contents.Response above) e is = refl
content_no_core k j (actors.Aggregator from) (actors.Aggregator i) u (contents.Synod m) e is = refl
content_no_core k j (actors.Aggregator from) (actors.Aggregator i) u (contents.Submission item) e is = refl
content_no_core k j (actors.Aggregator from) (actors.Aggregator i) u (contents.Response above) e is = refl

message_no_core : (k j : ℕ) (m : Option Message) (e : RoundEvent) → round_asked_by_message k m ≡ Some e → asked_by_message j m ≡ None
message_no_core k j None e is = refl
message_no_core k j (Some m) e is = content_no_core k j m.sender m.addressee m.second m.content e is

-- what asks something of an aggregator asks nothing of a core, and restarts none
pub round_no_core : (k j : ℕ) (w : WorldState) (event : Event) (e : RoundEvent) → round_asked_of k w event ≡ Some e → (asked_of j w.wire event ≡ None) × (is_restart_of j event ≡ false)
round_no_core k j w (events.Request i u imprint name) e is = (refl, refl)
round_no_core k j w (events.Close i u) e is = (refl, refl)
round_no_core k j w (events.Seal i u) e is = absurd (cc is)
round_no_core k j w (events.Ballot i u) e is = absurd (cc is)
round_no_core k j w (events.Deliver number) e is = (message_no_core k j (slice_get w.wire number) e is, refl)
round_no_core k j w (events.Tell i u) e is = absurd (cc is)
round_no_core k j w (events.Respond i u) e is = absurd (cc is)
round_no_core k j w (events.Publish i u) e is = absurd (cc is)
round_no_core k j w (events.RestartCore i) e is = absurd (cc is)
round_no_core k j w (events.RestartAggregator i) e is = (refl, refl)

-- and the other way round
content_no_round : (k j : ℕ) (sender addressee : Actor) (u : ℕ) (content : Content) (e : CoreEvent) → asked_by_content j sender addressee u content ≡ Some e → round_asked_by_content k sender addressee u content ≡ None
content_no_round k j (actors.Core from) (actors.Core i) u (contents.Synod m) e is = refl
content_no_round k j (actors.Core from) (actors.Core i) u (contents.Submission item) e is = refl
content_no_round k j (actors.Core from) (actors.Core i) u (contents.Response above) e is = refl
content_no_round k j (actors.Core from) (actors.Aggregator i) u (contents.Synod m) e is = refl
content_no_round k j (actors.Core from) (actors.Aggregator i) u (contents.Submission item) e is = refl
content_no_round k j (actors.Core from) (actors.Aggregator i) u (contents.Response above) e is = absurd (cc is)
content_no_round k j (actors.Aggregator from) (actors.Core i) u (contents.Synod m) e is = refl
content_no_round k j (actors.Aggregator from) (actors.Core i) u (contents.Submission item) e is = refl
content_no_round k j (actors.Aggregator from) (actors.Core i) u (contents.Response above) e is = refl
content_no_round k j (actors.Aggregator from) (actors.Aggregator i) u (contents.Synod m) e is = refl
content_no_round k j (actors.Aggregator from) (actors.Aggregator i) u (contents.Submission item) e is = absurd (cc is)
content_no_round k j (actors.Aggregator from) (actors.Aggregator i) u (contents.Response above) e is = absurd (cc is)

message_no_round : (k j : ℕ) (m : Option Message) (e : CoreEvent) → asked_by_message j m ≡ Some e → round_asked_by_message k m ≡ None
message_no_round k j None e is = refl
message_no_round k j (Some m) e is = content_no_round k j m.sender m.addressee m.second m.content e is

pub core_no_round : (k j : ℕ) (w : WorldState) (event : Event) (e : CoreEvent) → asked_of j w.wire event ≡ Some e → (round_asked_of k w event ≡ None) × (is_restart_of_aggregator k event ≡ false)
core_no_round k j w (events.Request i u imprint name) e is = absurd (cc is)
core_no_round k j w (events.Close i u) e is = absurd (cc is)
core_no_round k j w (events.Seal i u) e is = (refl, refl)
core_no_round k j w (events.Ballot i u) e is = (refl, refl)
core_no_round k j w (events.Deliver number) e is = (message_no_round k j (slice_get w.wire number) e is, refl)
core_no_round k j w (events.Tell i u) e is = (refl, refl)
core_no_round k j w (events.Respond i u) e is = (refl, refl)
core_no_round k j w (events.Publish i u) e is = (refl, refl)
core_no_round k j w (events.RestartCore i) e is = absurd (cc is)
core_no_round k j w (events.RestartAggregator i) e is = absurd (cc is)
