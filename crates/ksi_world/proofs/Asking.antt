-- An accepted request was made of an aggregator of the plan, for a second of it.
use Rattle.std.proofs.Common.{◌≡◌, ℕ, List, [], ◌∷◌, length, refl, sym, subst, inl, inr, Option, Some, None}
use Rattle.std.specs.Prelude.{slice_get}
use Rattle.ksi_signature.specs.declared.answer.Answer.{Answer}
use Rattle.ksi_signature.specs.declared.answer.Answer.TheVariants as answers
use Rattle.ksi_aggregator.specs.Rows.{round_request}
use Rattle.ksi_schedule.specs.declared.actor.Actor.{Actor}
use Rattle.ksi_schedule.specs.declared.actor.Actor.TheVariants as actors
use Rattle.ksi_schedule.specs.declared.event.Event.{Event}
use Rattle.ksi_schedule.specs.declared.event.Event.TheVariants as events
use Rattle.ksi_schedule.specs.Plans.{PlanState}
use Rattle.ksi_schedule.specs.Events.{IsEvent, AreEvents}
use Rattle.ksi_world.specs.declared.outcome.Asked.{Asked}
use Rattle.ksi_world.specs.declared.message.Content.{Content}
use Rattle.ksi_world.specs.declared.message.Content.TheVariants as contents
use Rattle.ksi_world.specs.declared.message.Message.{Message}
use Rattle.ksi_world.specs.Histories.{WorldState, asked_with, delivered, happens, first_world, run, after}
use Rattle.ksi_world.specs.Histories as histories
use Rattle.ksi_world.specs.Lasting.{IsAskedOf}
use Rattle.ksi_world.proofs.Turning.{get_push}

module _ (image : List ℕ → List ℕ) (plan : PlanState) where
  abbrev pub AreAsked : List Asked → Type 0
  AreAsked requests = (number : ℕ) (asked : Asked) → slice_get requests number ≡ Some asked → IsAskedOf plan asked

  with_asked : (requests : List Asked) (new : Asked) (answer : Answer) → IsAskedOf plan new → AreAsked requests → AreAsked (asked_with requests new answer)
  with_asked requests new (answers.Number n) of are = λ number asked at. elim (get_push requests new number asked at) [
    | inl old ↦ are number asked old
    | inr here ↦ subst (IsAskedOf plan) (sym here.1) of
  ]
  with_asked requests new answers.Done of are = are
  with_asked requests new (answers.Published root) of are = are
  with_asked requests new answers.Late of are = are
  with_asked requests new answers.Known of are = are
  with_asked requests new answers.Full of are = are
  with_asked requests new answers.Unsealed of are = are
  with_asked requests new answers.Sealed of are = are
  with_asked requests new answers.Closed of are = are
  with_asked requests new (answers.Undecided t) of are = are
  with_asked requests new answers.NotMine of are = are
  with_asked requests new answers.Nothing of are = are
  with_asked requests new answers.Last of are = are

  -- a message that is taken accepts no request, and publishes nothing
  pub record Leaves (w : WorldState) (h : histories.Happening) : Type 0 where
    pub requests : h.world.requests ≡ w.requests
    pub published : h.world.published ≡ w.published

  taken_leaves : (w : WorldState) (sender addressee : Actor) (t : ℕ) (content : Content) → Leaves w (histories.taken image plan w sender addressee t content)
  taken_leaves w (actors.Core from) (actors.Core j) t (contents.Synod m) = record { requests = refl; published = refl }
  taken_leaves w (actors.Core from) (actors.Core j) t (contents.Submission item) = record { requests = refl; published = refl }
  taken_leaves w (actors.Core from) (actors.Core j) t (contents.Response above) = record { requests = refl; published = refl }
  taken_leaves w (actors.Core from) (actors.Aggregator k) t (contents.Synod m) = record { requests = refl; published = refl }
  taken_leaves w (actors.Core from) (actors.Aggregator k) t (contents.Submission item) = record { requests = refl; published = refl }
  taken_leaves w (actors.Core from) (actors.Aggregator k) t (contents.Response above) = record { requests = refl; published = refl }
  taken_leaves w (actors.Aggregator from) (actors.Core j) t (contents.Synod m) = record { requests = refl; published = refl }
  taken_leaves w (actors.Aggregator from) (actors.Core j) t (contents.Submission item) = record { requests = refl; published = refl }
  taken_leaves w (actors.Aggregator from) (actors.Core j) t (contents.Response above) = record { requests = refl; published = refl }
  taken_leaves w (actors.Aggregator from) (actors.Aggregator k) t (contents.Synod m) = record { requests = refl; published = refl }
  taken_leaves w (actors.Aggregator from) (actors.Aggregator k) t (contents.Submission item) = record { requests = refl; published = refl }
  taken_leaves w (actors.Aggregator from) (actors.Aggregator k) t (contents.Response above) = record { requests = refl; published = refl }

  pub delivered_leaves : (w : WorldState) (found : Option Message) → Leaves w (delivered image plan w found)
  delivered_leaves w None = record { requests = refl; published = refl }
  delivered_leaves w (Some m) = taken_leaves w m.sender m.addressee m.second m.content

  happens_asks : (w : WorldState) (e : Event) → IsEvent plan e → AreAsked w.requests → AreAsked (happens image plan w e).world.requests
  unfolding happens
  happens_asks w (events.Request k t imprint name) is are = with_asked w.requests (record { aggregator = k; second = t; imprint = imprint }) (round_request (length w.requests) imprint name (w.rounds k t)).answer (is.0, is.1) are
  happens_asks w (events.Close k t) is are = are
  happens_asks w (events.Seal j t) is are = are
  happens_asks w (events.Ballot j t) is are = are
  happens_asks w (events.Deliver number) is are = subst AreAsked (sym (delivered_leaves w (slice_get w.wire number)).requests) are
  happens_asks w (events.Tell j t) is are = are
  happens_asks w (events.Respond j t) is are = are
  happens_asks w (events.Publish j p) is are = are
  happens_asks w (events.RestartCore j) is are = are
  happens_asks w (events.RestartAggregator k) is are = are

  run_asks : (es : List Event) (w : WorldState) → AreEvents plan es → AreAsked w.requests → AreAsked (run image plan w es).requests
  run_asks [] w all are = are
  run_asks (e ∷ es) w all are = run_asks es (happens image plan w e).world all.1 (happens_asks w e all.0 are)

  pub after_asks : (es : List Event) → AreEvents plan es → AreAsked (after image plan es).requests
  unfolding after first_world
  after_asks es all = run_asks es (first_world plan) all (λ number asked at. absurd (cc at))
