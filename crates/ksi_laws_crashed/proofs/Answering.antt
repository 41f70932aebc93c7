-- What an event that asks something of an aggregator is answered: what its turn answers.
use Rattle.std.proofs.Common.{◌≡◌, ℕ, List, length, refl, sym, ap, subst, ◌∙◌, Option, Some, None}
use Rattle.std.specs.Prelude.{slice_get}
use Rattle.std.proofs.lemmas.Bool.{eqb-true}
use Rattle.ksi_signature.specs.declared.answer.Answer.{Answer}
use Rattle.ksi_aggregator.specs.Rows.{RoundState, RoundTurn, round_request, round_submission, round_close, round_response}
use Rattle.ksi_aggregator.specs.declared.event.RoundEvent.{RoundEvent}
use Rattle.ksi_aggregator.specs.declared.event.RoundEvent.TheVariants as happenings
use Rattle.ksi_schedule.specs.Plans.{PlanState}
use Rattle.ksi_schedule.specs.declared.actor.Actor.{Actor}
use Rattle.ksi_schedule.specs.declared.actor.Actor.TheVariants as actors
use Rattle.ksi_schedule.specs.declared.event.Event.{Event}
use Rattle.ksi_schedule.specs.declared.event.Event.TheVariants as events
use Rattle.ksi_world.specs.declared.message.Content.{Content}
use Rattle.ksi_world.specs.declared.message.Content.TheVariants as contents
use Rattle.ksi_world.specs.declared.message.Message.{Message}
use Rattle.ksi_world.specs.Histories.{WorldState, delivered, happens, taken}
use Rattle.ksi_world.specs.RoundEvents.{round_asked_by_content, round_asked_by_message, round_asked_of, round_turn, where_this}
use Rattle.ksi_laws_crashed.proofs.FactsMore.{asked_here}

module _ (image : List ℕ → List ℕ) (plan : PlanState) (w : WorldState) (k : ℕ) where
  abbrev Answers : RoundEvent → Answer → Type 0
  Answers e answer = answer ≡ (round_turn image w k e).answer

  -- a row of a round, where the event asks for it
  by_row : (i u : ℕ) (asked e : RoundEvent) (row : RoundState → RoundTurn) → where_this k i asked ≡ Some e → round_turn image w k asked ≡ row (w.rounds k u) → Answers e (row (w.rounds i u)).answer
  by_row i u asked e row is turn =
      let here = asked_here k i asked e is in
      subst (λ (e : RoundEvent). Answers e (row (w.rounds i u)).answer) here.1
      (ap (λ (j : ℕ). (row (w.rounds j u)).answer) (sym (eqb-true k i here.0)) ∙ ap (λ (x : RoundTurn). x.answer) (sym turn))

  taken_answers : (sender addressee : Actor) (u : ℕ) (content : Content) (e : RoundEvent) → round_asked_by_content k sender addressee u content ≡ Some e → Answers e (taken image plan w sender addressee u content).outcome.answer
  taken_answers (actors.Core from) (actors.Core i) u (contents.Synod m) e is = absurd (cc is)
  taken_answers (actors.Core from) (actors.Core i) u (contents.Submission item) e is = absurd (cc is)
  taken_answers (actors.Core from) (actors.Core i) u (contents.Response above) e is = absurd (cc is)
  taken_answers (actors.Core from) (actors.Aggregator i) u (contents.Synod m) e is = absurd (cc is)
  taken_answers (actors.Core from) (actors.Aggregator i) u (contents.Submission item) e is = absurd (cc is)
  taken_answers (actors.Core from) (actors.Aggregator i) u (contents.Response above) e is = by_row i u (happenings.Response u above) e (round_response image above) is refl
  taken_answers (actors.Aggregator from) (actors.Core i) u (contents.Synod m) e is = absurd (cc is)
  taken_answers (actors.Aggregator from) (actors.Core i) u (contents.Submission item) e is = absurd (cc is)
  taken_answers (actors.Aggregator from) (actors.Core i) u (contents.Response above) e is = absurd (cc is)
  taken_answers (actors.Aggregator from) (actors.Aggregator i) u (contents.Synod m) e is = absurd (cc is)
  taken_answers (actors.Aggregator from) (actors.Aggregator i) u (contents.Submission item) e is = by_row i u (happenings.Submission from u item) e (round_submission from item) is refl
  taken_answers (actors.Aggregator from) (actors.Aggregator i) u (contents.Response above) e is = by_row i u (happenings.Response u above) e (round_response image above) is refl

  delivered_answers : (m : Option Message) (e : RoundEvent) → round_asked_by_message k m ≡ Some e → Answers e (delivered image plan w m).outcome.answer
  delivered_answers None e is = absurd (cc is)
  delivered_answers (Some m) e is = taken_answers m.sender m.addressee m.second m.content e is

  pub event_answers : (event : Event) (e : RoundEvent) → round_asked_of k w event ≡ Some e → Answers e (happens image plan w event).outcome.answer
  unfolding happens
  event_answers (events.Request i u imprint name) e is = by_row i u (happenings.Request (length w.requests) u imprint name) e (round_request (length w.requests) imprint name) is refl
  event_answers (events.Close i u) e is = by_row i u (happenings.Close u) e (round_close image) is refl
  event_answers (events.Seal i u) e is = absurd (cc is)
  event_answers (events.Ballot i u) e is = absurd (cc is)
  event_answers (events.Deliver number) e is = delivered_answers (slice_get w.wire number) e is
  event_answers (events.Tell i u) e is = absurd (cc is)
  event_answers (events.Respond i u) e is = absurd (cc is)
  event_answers (events.Publish i u) e is = absurd (cc is)
  event_answers (events.RestartCore i) e is = absurd (cc is)
  event_answers (events.RestartAggregator i) e is = absurd (cc is)
