-- An aggregator may take what an event asks of it; and what an aggregator of a history issues is issued of the request of that number.
use Rattle.std.proofs.Common.{◌≡◌, ℕ, ◌<◌, ◌≤◌, ◌^◌, List, length, refl, sym, subst, arith, Option, Some, None}
use Rattle.std.specs.Prelude.{slice_get}
use Rattle.std.proofs.lemmas.Bool.{eqb-true}
use Rattle.ksi_aggtree.specs.declared.entries.Origin.TheVariants as origins
use Rattle.ksi_signature.specs.declared.above.Above.{Above}
use Rattle.ksi_aggregator.specs.Issuing.{IsIssued, IsIssuedAt}
use Rattle.ksi_aggregator.specs.Rounds.{HasPlace, IsNew, items_in}
use Rattle.ksi_aggregator.specs.declared.event.RoundEvent.{RoundEvent}
use Rattle.ksi_aggregator.specs.declared.event.RoundEvent.TheVariants as happenings
use Rattle.ksi_aggregator.specs.Events.{event_second, MayTake}
use Rattle.ksi_schedule.specs.Plans.{PlanState, IsPlan, InRange}
use Rattle.ksi_schedule.specs.Events.{IsEvent, AreEvents}
use Rattle.ksi_schedule.specs.declared.actor.Actor.{Actor}
use Rattle.ksi_schedule.specs.declared.actor.Actor.TheVariants as actors
use Rattle.ksi_schedule.specs.declared.event.Event.{Event}
use Rattle.ksi_schedule.specs.declared.event.Event.TheVariants as events
use Rattle.ksi_world.specs.declared.message.Content.{Content}
use Rattle.ksi_world.specs.declared.message.Content.TheVariants as contents
use Rattle.ksi_world.specs.declared.message.Message.{Message}
use Rattle.ksi_world.specs.Histories.{WorldState, after}
use Rattle.ksi_world.specs.Records.{issued_of}
use Rattle.ksi_world.specs.Sound.{depth_of, IsPost, IsSent, IsSound}
use Rattle.ksi_world.specs.RoundEvents.{round_asked_by_content, round_asked_by_message, round_asked_of}
use Rattle.ksi_world.proofs.AskedRounds.{asked_this}
use Rattle.ksi_world.proofs.Deciding.{after_sound}
use Rattle.ksi_world.proofs.IssuedOf.{issued_is}
use Rattle.ksi_world.proofs.Numbered.{after_numbered, AreRequested, asked_at}
use Rattle.ksi_world.proofs.Sending.{leaf_most, TreeRises}
use Rattle.ksi_world.proofs.Taking.{entry_of, lower_depth, round_in}

module _ (plan : PlanState) (is : IsPlan plan) (w : WorldState) (sound : IsSound plan w) (k : ℕ) where
  -- aggregator k may take it, and its second is early
  abbrev May : RoundEvent → Type 0
  May e = MayTake (w.rounds k) e × (event_second e < 2 ^ 63)

  early : (t : ℕ) → InRange plan t → t < 2 ^ 63
  early t range = omega (arith, range.1, is.core_plan.early)

  new_request : IsNew (length w.requests) (w.rounds k)
  new_request t i item there =
      let of = entry_of plan (actors.Aggregator k) (length w.requests) (items_in (w.rounds k t)) i (record { origin = origins.Request (length w.requests); item = item })
      (round_in plan k (length w.requests) (w.rounds k t) (sound.rounds k t)).are there in
      omega (arith, of.0)

  has_place : (t : ℕ) (above : Above) → length above.chains ≤ depth_of plan (actors.Aggregator k) → HasPlace (w.rounds k t) above
  has_place t above few lower =
      omega (arith, few, lower_depth plan is (actors.Aggregator k) (length w.requests) (items_in (w.rounds k t)) (round_in plan k (length w.requests) (w.rounds k t) (sound.rounds k t)).are lower)

  response_may : (i u : ℕ) (above : Above) (e : RoundEvent) → InRange plan u → length above.chains ≤ depth_of plan (actors.Aggregator i) → round_asked_by_content k (actors.Core 0) (actors.Aggregator i) u (contents.Response above) ≡ Some e → May e
  response_may i u above e range few asked =
      let here = asked_this k i (happenings.Response u above) e asked in
      subst May here.1 (has_place u above (subst (λ (n : ℕ). length above.chains ≤ depth_of plan (actors.Aggregator n)) (sym (eqb-true k i here.0)) few), early u range)

  content_may : (sender addressee : Actor) (u : ℕ) (content : Content) (e : RoundEvent) → InRange plan u → IsSent plan sender addressee content → round_asked_by_content k sender addressee u content ≡ Some e → May e
  content_may (actors.Core from) (actors.Core i) u (contents.Synod m) e range sent asked = absurd (cc asked)
  content_may (actors.Core from) (actors.Core i) u (contents.Submission item) e range sent asked = absurd (cc asked)
  content_may (actors.Core from) (actors.Core i) u (contents.Response above) e range sent asked = absurd (cc asked)
  content_may (actors.Core from) (actors.Aggregator i) u (contents.Synod m) e range sent asked = absurd (cc asked)
  content_may (actors.Core from) (actors.Aggregator i) u (contents.Submission item) e range sent asked = absurd (cc asked)
  content_may (actors.Core from) (actors.Aggregator i) u (contents.Response above) e range sent asked = response_may i u above e range sent.1 asked
  content_may (actors.Aggregator from) (actors.Core i) u (contents.Synod m) e range sent asked = absurd (cc asked)
  content_may (actors.Aggregator from) (actors.Core i) u (contents.Submission item) e range sent asked = absurd (cc asked)
  content_may (actors.Aggregator from) (actors.Core i) u (contents.Response above) e range sent asked = absurd (cc asked)
  content_may (actors.Aggregator from) (actors.Aggregator i) u (contents.Synod m) e range sent asked = absurd (cc asked)
  content_may (actors.Aggregator from) (actors.Aggregator i) u (contents.Submission item) e range sent asked =
      subst May (asked_this k i (happenings.Submission from u item) e asked).1 (omega (arith, sent.2, leaf_most item), early u range)
  content_may (actors.Aggregator from) (actors.Aggregator i) u (contents.Response above) e range sent asked = response_may i u above e range sent.1 asked

  message_may : (m : Option Message) (e : RoundEvent) → ((one : Message) → m ≡ Some one → IsPost plan one) → round_asked_by_message k m ≡ Some e → May e
  message_may None e posts asked = absurd (cc asked)
  message_may (Some m) e posts asked = let post = posts m refl in content_may m.sender m.addressee m.second m.content e post.second post.sent asked

  event_may : (event : Event) (e : RoundEvent) → IsEvent plan event → round_asked_of k w event ≡ Some e → May e
  event_may (events.Request i u imprint name) e event_is asked = subst May (asked_this k i (happenings.Request (length w.requests) u imprint name) e asked).1 (new_request, early u event_is.1)
  event_may (events.Close i u) e event_is asked = subst May (asked_this k i (happenings.Close u) e asked).1 (tt, early u event_is.1)
  event_may (events.Seal i u) e event_is asked = absurd (cc asked)
  event_may (events.Ballot i u) e event_is asked = absurd (cc asked)
  event_may (events.Deliver number) e event_is asked = message_may (slice_get w.wire number) e (λ one at. sound.wire number one at) asked
  event_may (events.Tell i u) e event_is asked = absurd (cc asked)
  event_may (events.Respond i u) e event_is asked = absurd (cc asked)
  event_may (events.Publish i u) e event_is asked = absurd (cc asked)
  event_may (events.RestartCore i) e event_is asked = absurd (cc asked)
  event_may (events.RestartAggregator i) e event_is asked = absurd (cc asked)

module _ (image : List ℕ → List ℕ) (plan : PlanState) where
  pub round_may : TreeRises image → (before : List Event) → IsPlan plan → AreEvents plan before → (k : ℕ) (event : Event) (e : RoundEvent) → IsEvent plan event → round_asked_of k (after image plan before) event ≡ Some e
      → MayTake ((after image plan before).rounds k) e × (event_second e < 2 ^ 63)
  round_may rises before is are k event e event_is asked = event_may plan is (after image plan before) (after_sound image plan is rises before are) k event e event_is asked

  -- what a round of a history issues of a number is issued of the request of that number
  pub round_issues : (events : List Event) (k number : ℕ) (bytes : List ℕ) → IsIssued image ((after image plan events).rounds k) number bytes → issued_of image (after image plan events) number ≡ Some bytes
  round_issues events k number bytes is =
      let w = after image plan events in
      let numbered = after_numbered image plan events in
      let at : IsIssuedAt image (w.rounds k is.0) number is.0 is.1 bytes = is.2 in
      let are : AreRequested w.requests k is.0 at.entries = (numbered k is.0).closed at.entries at.answered.closed in
      issued_is image w number numbered bytes (record { asked = asked_at k is.0 at.item; accepted = (are.asked is.1 number at.item at.request).asked; issued = is })
