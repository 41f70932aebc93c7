-- What an event that asks something of a core sends, and that it asks nothing of the others.
use Rattle.ksi_schedule.specs.Plans.{PlanState, core_plan_of}
use Rattle.std.proofs.Common.{◌≡◌, ℕ, ◌++◌, eqb, Bool, true, false, if◌then◌else◌, List, refl, sym, ap, subst, ◌∙◌, append-nil, Option, Some, None}
use Rattle.std.specs.Prelude.{map, slice_get, ◌≢◌}
use Rattle.std.proofs.lemmas.Bool.{eqb-true}
use Rattle.ksi_corenode.specs.Turns.{Turn}
use Rattle.ksi_corenode.specs.Rows.{submission_row, seal_row, ballot_row, receive_row, tell_row, respond_row}
use Rattle.ksi_corenode.specs.declared.event.CoreEvent.{CoreEvent}
use Rattle.ksi_corenode.specs.declared.event.CoreEvent.TheVariants as happenings
use Rattle.ksi_corenode.specs.Events.{event_second}
use Rattle.ksi_schedule.specs.declared.actor.Actor.{Actor}
use Rattle.ksi_schedule.specs.declared.actor.Actor.TheVariants as actors
use Rattle.ksi_schedule.specs.declared.event.Event.{Event}
use Rattle.ksi_schedule.specs.declared.event.Event.TheVariants as events
use Rattle.ksi_world.specs.declared.message.Content.{Content}
use Rattle.ksi_world.specs.declared.message.Content.TheVariants as contents
use Rattle.ksi_world.specs.declared.message.Message.{Message}
use Rattle.ksi_world.specs.Histories.{WorldState, core_message, delivered, happens, held_in, taken}
use Rattle.ksi_world.specs.Nodes.{core_turn}
use Rattle.ksi_world.specs.CoreEvents.{asked_by_content, asked_by_message, asked_of, is_restart_of, where_mine}
use Rattle.ksi_world.proofs.AskedCores.{asked_here}

module _ (image : List ℕ → List ℕ) (plan : PlanState) (w : WorldState) (j : ℕ) where
  -- the wire with what the turn of core j sends
  abbrev Sent : CoreEvent → List Message → Type 0
  Sent e wire = wire ≡ w.wire ++ map (core_message j (event_second e)) (core_turn image plan w j e).sends

  own_sends : (i u : ℕ) (row : ℕ → Turn) → eqb j i ≡ true → w.wire ++ map (core_message i u) (row i).sends ≡ w.wire ++ map (core_message j u) (row j).sends
  own_sends i u row here = ap (λ (k : ℕ). w.wire ++ map (core_message k u) (row k).sends) (sym (eqb-true j i here))

  taken_sent : (sender addressee : Actor) (u : ℕ) (content : Content) (e : CoreEvent) → asked_by_content j sender addressee u content ≡ Some e → Sent e (taken image plan w sender addressee u content).world.wire
  taken_sent (actors.Core from) (actors.Core i) u (contents.Synod m) e is =
      let here = asked_here j i (happenings.Receive from u m) e is in
      subst (λ (e : CoreEvent). Sent e (taken image plan w (actors.Core from) (actors.Core i) u (contents.Synod m)).world.wire) here.1
      (own_sends i u (λ k. receive_row (core_plan_of plan) u from m (w.seconds k u)) here.0)
  taken_sent (actors.Core from) (actors.Core i) u (contents.Submission item) e is = absurd (cc is)
  taken_sent (actors.Core from) (actors.Core i) u (contents.Response above) e is = absurd (cc is)
  taken_sent (actors.Core from) (actors.Aggregator k) u (contents.Synod m) e is = absurd (cc is)
  taken_sent (actors.Core from) (actors.Aggregator k) u (contents.Submission item) e is = absurd (cc is)
  taken_sent (actors.Core from) (actors.Aggregator k) u (contents.Response above) e is = absurd (cc is)
  taken_sent (actors.Aggregator from) (actors.Core i) u (contents.Synod m) e is = absurd (cc is)
  taken_sent (actors.Aggregator from) (actors.Core i) u (contents.Submission item) e is =
      let here = asked_here j i (happenings.Submission from u item) e is in
      subst (λ (e : CoreEvent). Sent e (taken image plan w (actors.Aggregator from) (actors.Core i) u (contents.Submission item)).world.wire) here.1
      (own_sends i u (λ k. submission_row from item (w.seconds k u)) here.0)
  taken_sent (actors.Aggregator from) (actors.Core i) u (contents.Response above) e is = absurd (cc is)
  taken_sent (actors.Aggregator from) (actors.Aggregator k) u (contents.Synod m) e is = absurd (cc is)
  taken_sent (actors.Aggregator from) (actors.Aggregator k) u (contents.Submission item) e is = absurd (cc is)
  taken_sent (actors.Aggregator from) (actors.Aggregator k) u (contents.Response above) e is = absurd (cc is)

  delivered_sent : (m : Option Message) (e : CoreEvent) → asked_by_message j m ≡ Some e → Sent e (delivered image plan w m).world.wire
  delivered_sent None e is = absurd (cc is)
  delivered_sent (Some m) e is = taken_sent m.sender m.addressee m.second m.content e is

  -- behind all that was sent before stands what the turn sends
  pub event_sent : (event : Event) (e : CoreEvent) → asked_of j w.wire event ≡ Some e → Sent e (happens image plan w event).world.wire
  unfolding happens
  event_sent (events.Request k u imprint name) e is = absurd (cc is)
  event_sent (events.Close k u) e is = absurd (cc is)
  event_sent (events.Seal i u) e is =
      let here = asked_here j i (happenings.Seal u) e is in
      subst (λ (e : CoreEvent). Sent e (happens image plan w (events.Seal i u)).world.wire) here.1 (own_sends i u (λ k. seal_row image (w.seconds k u)) here.0)
  event_sent (events.Ballot i u) e is =
      let here = asked_here j i (happenings.Ballot u) e is in
      subst (λ (e : CoreEvent). Sent e (happens image plan w (events.Ballot i u)).world.wire) here.1 (own_sends i u (λ k. ballot_row (core_plan_of plan) u k (w.seconds k u)) here.0)
  event_sent (events.Deliver number) e is = delivered_sent (slice_get w.wire number) e is
  event_sent (events.Tell i u) e is =
      let here = asked_here j i (happenings.Tell u) e is in
      subst (λ (e : CoreEvent). Sent e (happens image plan w (events.Tell i u)).world.wire) here.1 (own_sends i u (λ k. tell_row (core_plan_of plan) u k (w.seconds k u)) here.0)
  event_sent (events.Respond i u) e is =
      let here = asked_here j i (happenings.Respond u) e is in
      subst (λ (e : CoreEvent). Sent e (happens image plan w (events.Respond i u)).world.wire) here.1 (own_sends i u (λ k. respond_row image (held_in w k) plan.start u (w.seconds k u)) here.0)
  event_sent (events.Publish i u) e is =
      let here = asked_here j i (happenings.Publish u) e is in
      subst (λ (e : CoreEvent). Sent e (happens image plan w (events.Publish i u)).world.wire) here.1 (sym (append-nil w.wire))
  event_sent (events.RestartCore i) e is = absurd (cc is)
  event_sent (events.RestartAggregator k) e is = absurd (cc is)

-- THE OTHERS

not_mine : (k j i : ℕ) (asked e : CoreEvent) → where_mine k i asked ≡ Some e → j ≢ k → where_mine j i asked ≡ None
not_mine k j i asked e is other = by (eqb j i) refl
  where
    by : (b : Bool) → eqb j i ≡ b → (if b then Some asked else None) ≡ None
    by true here = absurd (other (eqb-true j i here ∙ sym (eqb-true k i (asked_here k i asked e is).0)))
    by false there = refl

content_not_mine : (k j : ℕ) (sender addressee : Actor) (u : ℕ) (content : Content) (e : CoreEvent) → asked_by_content k sender addressee u content ≡ Some e → j ≢ k → asked_by_content j sender addressee u content ≡ None
content_not_mine k j (actors.Core from) (actors.Core i) u (contents.Synod m) e is other = not_mine k j i (happenings.Receive from u m) e is other
content_not_mine k j (actors.Core from) (actors.Core i) u (contents.Submission item) e is other = refl
content_not_mine k j (actors.Core from) (actors.Core i) u (contents.Response above) e is other = refl
content_not_mine k j (actors.Core from) (actors.Aggregator i) u (contents.Synod m) e is other = refl
content_not_mine k j (actors.Core from) (actors.Aggregator i) u (contents.Submission item) e is other = refl
content_not_mine k j (actors.Core from) (actors.Aggregator i) u (contents.Response above) e is other = refl
content_not_mine k j (actors.Aggregator from) (actors.Core i) u (contents.Synod m) e is other = refl
content_not_mine k j (actors.Aggregator from) (actors.Core i) u (contents.Submission item) e is other = not_mine k j i (happenings.Submission from u item) e is other
content_not_mine k j (actors.Aggregator from) (actors.Core i) u (contents.Response above) e is other = refl
content_not_mine k j (actors.Aggregator from) (actors.Aggregator i) u (contents.Synod m) e is other = refl
content_not_mine k j (actors.Aggregator from) (actors.Aggregator i) u (contents.Submission item) e is other = refl
content_not_mine k j (actors.Aggregator from) (actors.Aggregator i) u (contents.Response above) e is other = refl

message_not_mine : (k j : ℕ) (m : Option Message) (e : CoreEvent) → asked_by_message k m ≡ Some e → j ≢ k → asked_by_message j m ≡ None
message_not_mine k j None e is other = refl
message_not_mine k j (Some m) e is other = content_not_mine k j m.sender m.addressee m.second m.content e is other

-- what asks something of a core asks nothing of another, and restarts none
pub event_not_mine : (k j : ℕ) (wire : List Message) (event : Event) (e : CoreEvent) → asked_of k wire event ≡ Some e → j ≢ k → (asked_of j wire event ≡ None) × (is_restart_of j event ≡ false)
event_not_mine k j wire (events.Request i u imprint name) e is other = (refl, refl)
event_not_mine k j wire (events.Close i u) e is other = (refl, refl)
event_not_mine k j wire (events.Seal i u) e is other = (not_mine k j i (happenings.Seal u) e is other, refl)
event_not_mine k j wire (events.Ballot i u) e is other = (not_mine k j i (happenings.Ballot u) e is other, refl)
event_not_mine k j wire (events.Deliver number) e is other = (message_not_mine k j (slice_get wire number) e is other, refl)
event_not_mine k j wire (events.Tell i u) e is other = (not_mine k j i (happenings.Tell u) e is other, refl)
event_not_mine k j wire (events.Respond i u) e is other = (not_mine k j i (happenings.Respond u) e is other, refl)
event_not_mine k j wire (events.Publish i u) e is other = (not_mine k j i (happenings.Publish u) e is other, refl)
event_not_mine k j wire (events.RestartCore i) e is other = absurd (cc is)
event_not_mine k j wire (events.RestartAggregator i) e is other = (refl, refl)
