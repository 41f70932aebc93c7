-- What an event that asks something of a core is answered: what its turn answers.
use Rattle.ksi_schedule.specs.Plans.{PlanState}
use Rattle.std.proofs.Common.{◌≡◌, ℕ, List, refl, sym, ap, subst, ◌∙◌, Option, Some, None}
use Rattle.std.specs.Prelude.{slice_get}
use Rattle.std.proofs.lemmas.Bool.{eqb-true}
use Rattle.ksi_corenode.specs.declared.event.CoreEvent.{CoreEvent}
use Rattle.ksi_corenode.specs.declared.event.CoreEvent.TheVariants as happenings
use Rattle.ksi_schedule.specs.declared.actor.Actor.{Actor}
use Rattle.ksi_schedule.specs.declared.actor.Actor.TheVariants as actors
use Rattle.ksi_schedule.specs.declared.event.Event.{Event}
use Rattle.ksi_schedule.specs.declared.event.Event.TheVariants as events
use Rattle.ksi_world.specs.declared.message.Content.{Content}
use Rattle.ksi_world.specs.declared.message.Content.TheVariants as contents
use Rattle.ksi_world.specs.declared.message.Message.{Message}
use Rattle.ksi_world.specs.Histories.{Happening, WorldState, delivered, happens, taken}
use Rattle.ksi_world.specs.Nodes.{core_turn}
use Rattle.ksi_world.specs.CoreEvents.{asked_by_content, asked_by_message, asked_of, where_mine}
use Rattle.ksi_node_file.proofs.FactsMore.{asked_here}

module _ (image : List ℕ → List ℕ) (plan : PlanState) (w : WorldState) (j : ℕ) where
  abbrev Answers : CoreEvent → Happening → Type 0
  Answers e h = h.outcome.answer ≡ (core_turn image plan w j e).answer

  -- the turn of a core, where the event asks for it
  by_row : (i : ℕ) (asked e : CoreEvent) (h : Happening) → where_mine j i asked ≡ Some e → h.outcome.answer ≡ (core_turn image plan w i asked).answer → Answers e h
  by_row i asked e h is so =
      let here = asked_here j i asked e is in
      subst (λ (e : CoreEvent). Answers e h) here.1
      (so ∙ ap (λ (k : ℕ). (core_turn image plan w k asked).answer) (sym (eqb-true j i here.0)))

  taken_answers : (sender addressee : Actor) (u : ℕ) (content : Content) (e : CoreEvent) → asked_by_content j sender addressee u content ≡ Some e → Answers e (taken image plan w sender addressee u content)
  taken_answers (actors.Core from) (actors.Core i) u (contents.Synod m) e is = by_row i (happenings.Receive from u m) e (taken image plan w (actors.Core from) (actors.Core i) u (contents.Synod m)) is refl
  taken_answers (actors.Core from) (actors.Core i) u (contents.Submission item) e is = absurd (cc is)
  taken_answers (actors.Core from) (actors.Core i) u (contents.Response above) e is = absurd (cc is)
  taken_answers (actors.Core from) (actors.Aggregator k) u (contents.Synod m) e is = absurd (cc is)
  taken_answers (actors.Core from) (actors.Aggregator k) u (contents.Submission item) e is = absurd (cc is)
  taken_answers (actors.Core from) (actors.Aggregator k) u (contents.Response above) e is = absurd (cc is)
  taken_answers (actors.Aggregator from) (actors.Core i) u (contents.Synod m) e is = absurd (cc is)
  taken_answers (actors.Aggregator from) (actors.Core i) u (contents.Submission item) e is = by_row i (happenings.Submission from u item) e (taken image plan w (actors.Aggregator from) (actors.Core i) u (contents.Submission item)) is refl
  taken_answers (actors.Aggregator from) (actors.Core i) u (contents.Response above) e is = absurd (cc is)
  taken_answers (actors.Aggregator from) (actors.Aggregator k) u (contents.Synod m) e is = absurd (cc is)
  taken_answers (actors.Aggregator from) (actors.Aggregator k) u (contents.Submission item) e is = absurd (cc is)
  taken_answers (actors.Aggregator from) (actors.Aggregator k) u (contents.Response above) e is = absurd (cc is)

  delivered_answers : (m : Option Message) (e : CoreEvent) → asked_by_message j m ≡ Some e → Answers e (delivered image plan w m)
  delivered_answers None e is = absurd (cc is)
  delivered_answers (Some m) e is = taken_answers m.sender m.addressee m.second m.content e is

  pub event_answers : (event : Event) (e : CoreEvent) → asked_of j w.wire event ≡ Some e → Answers e (happens image plan w event)
  unfolding happens
  event_answers (events.Request i u imprint name) e is = absurd (cc is)
  event_answers (events.Close i u) e is = absurd (cc is)
  event_answers (events.Seal i u) e is = by_row i (happenings.Seal u) e (happens image plan w (events.Seal i u)) is refl
  event_answers (events.Ballot i u) e is = by_row i (happenings.Ballot u) e (happens image plan w (events.Ballot i u)) is refl
  event_answers (events.Deliver number) e is = delivered_answers (slice_get w.wire number) e is
  event_answers (events.Tell i u) e is = by_row i (happenings.Tell u) e (happens image plan w (events.Tell i u)) is refl
  event_answers (events.Respond i u) e is = by_row i (happenings.Respond u) e (happens image plan w (events.Respond i u)) is refl
  event_answers (events.Publish i u) e is = by_row i (happenings.Publish u) e (happens image plan w (events.Publish i u)) is refl
  event_answers (events.RestartCore i) e is = absurd (cc is)
  event_answers (events.RestartAggregator i) e is = absurd (cc is)
