-- What a majority of a second's voters voted for in one ballot is the only root that is ever held for it.
use Rattle.std.proofs.Common.{◌≡◌, ℕ, ◌*◌, ◌<◌, Bool, true, List, [], ◌∷◌, ◌++◌, length, refl, sym, ap, subst, ◌∙◌, append_assoc, Option, Some, None}
use Rattle.std.specs.Prelude.{slice_get}
use Rattle.std.proofs.lemmas.List.{append-nil}
use Rattle.std.specs.List.{count_by}
use Rattle.ksi_synod.specs.declared.messages.SynodMessage.{SynodMessage}
use Rattle.ksi_synod.specs.declared.messages.SynodMessage.TheVariants as message
use Rattle.ksi_synod.specs.VoteState.{VoteState}
use Rattle.ksi_synod.specs.Reached.{Said, says, Has, Reached}
use Rattle.ksi_synod.specs.CorePlans.{voters_of}
use Rattle.ksi_schedule.specs.declared.event.Event.{Event}
use Rattle.ksi_schedule.specs.Plans.{PlanState, IsPlan, core_plan_of}
use Rattle.ksi_schedule.specs.Events.{AreEvents}
use Rattle.ksi_schedule.specs.declared.actor.Actor.{Actor}
use Rattle.ksi_schedule.specs.declared.actor.Actor.TheVariants as actors
use Rattle.ksi_schedule.specs.declared.event.Event.TheVariants as events
use Rattle.ksi_world.specs.declared.message.Content.{Content}
use Rattle.ksi_world.specs.declared.message.Content.TheVariants as contents
use Rattle.ksi_world.specs.declared.message.Message.{Message}
use Rattle.ksi_world.specs.Histories.{WorldState, held_in, taken, delivered, happens, run, first_world, after}
use Rattle.ksi_world.specs.Chosen.{IsOnWire, IsChosen}
use Rattle.ksi_world.proofs.Growing.{run_both}
use Rattle.ksi_world.proofs.Voting.{get_before, votes_at}
use Rattle.ksi_world.proofs.Voted.{after_voted}

-- the law of the vote
abbrev pub StepsChoose : Type 0
StepsChoose = (voters : List ℕ) (states : ℕ → VoteState) (said : List Said) → Reached voters states said →
    (ballot : ℕ) (d : List ℕ) (who : ℕ → Bool) → length voters < 2 * count_by who voters →
    (by : ℕ) → Has said (says by (message.BeginBallot ballot d)) → ((x : ℕ) → who x ≡ true → Has said (says x (message.Voted ballot))) →
    (core : ℕ) (e : List ℕ) → (states core).held ≡ Some e → e ≡ d

-- WHAT WAS SENT STAYS SENT

abbrev Longer : (old new : List Message) → Type 0
Longer old new = (more : List Message) × (new ≡ old ++ more)

module _ (image : List ℕ → List ℕ) (plan : PlanState) where
  taken_longer : (w : WorldState) (sender addressee : Actor) (t : ℕ) (c : Content) → Longer w.wire (taken image plan w sender addressee t c).world.wire
  taken_longer w (actors.Core from) (actors.Core j) t (contents.Synod m) = (_, refl)
  taken_longer w (actors.Aggregator from) (actors.Core j) t (contents.Submission item) = (_, refl)
  taken_longer w (actors.Aggregator from) (actors.Aggregator k) t (contents.Submission item) = (_, refl)
  taken_longer w (actors.Core from) (actors.Aggregator k) t (contents.Response above) = (_, refl)
  taken_longer w (actors.Aggregator from) (actors.Aggregator k) t (contents.Response above) = (_, refl)
  taken_longer w (actors.Core from) (actors.Core j) t (contents.Submission item) = ([], sym (append-nil w.wire))
  taken_longer w (actors.Core from) (actors.Core j) t (contents.Response above) = ([], sym (append-nil w.wire))
  taken_longer w (actors.Aggregator from) (actors.Core j) t (contents.Synod m) = ([], sym (append-nil w.wire))
  taken_longer w (actors.Aggregator from) (actors.Core j) t (contents.Response above) = ([], sym (append-nil w.wire))
  taken_longer w (actors.Core from) (actors.Aggregator k) t (contents.Synod m) = ([], sym (append-nil w.wire))
  taken_longer w (actors.Core from) (actors.Aggregator k) t (contents.Submission item) = ([], sym (append-nil w.wire))
  taken_longer w (actors.Aggregator from) (actors.Aggregator k) t (contents.Synod m) = ([], sym (append-nil w.wire))

  delivered_longer : (w : WorldState) (o : Option Message) → Longer w.wire (delivered image plan w o).world.wire
  delivered_longer w None = ([], sym (append-nil w.wire))
  delivered_longer w (Some m) = taken_longer w m.sender m.addressee m.second m.content

  happens_longer : (w : WorldState) (e : Event) → Longer w.wire (happens image plan w e).world.wire
  unfolding happens
  happens_longer w (events.Request k t imprint name) = (_, refl)
  happens_longer w (events.Close k t) = (_, refl)
  happens_longer w (events.Seal j t) = (_, refl)
  happens_longer w (events.Ballot j t) = (_, refl)
  happens_longer w (events.Deliver number) = delivered_longer w (slice_get w.wire number)
  happens_longer w (events.Tell j t) = (_, refl)
  happens_longer w (events.Respond j t) = (_, refl)
  happens_longer w (events.Publish j p) = ([], sym (append-nil w.wire))
  happens_longer w (events.RestartCore j) = ([], sym (append-nil w.wire))
  happens_longer w (events.RestartAggregator k) = ([], sym (append-nil w.wire))

  run_longer : (es : List Event) (w : WorldState) → Longer w.wire (run image plan w es).wire
  run_longer [] w = ([], sym (append-nil w.wire))
  run_longer (e ∷ es) w =
      let one = happens_longer w e in
      let rest = run_longer es (happens image plan w e).world in
      (one.0 ++ rest.0, rest.1 ∙ ap (λ wire. wire ++ rest.0) one.1 ∙ append_assoc w.wire one.0 rest.0)

  on_wire_still : (w : WorldState) (later : List Event) (t by : ℕ) (what : SynodMessage) → IsOnWire w t by what → IsOnWire (run image plan w later) t by what
  on_wire_still w later t by what on =
      let longer = run_longer later w in
      record { number = on.number; addressee = on.addressee; at = ap (λ wire. slice_get wire on.number) longer.1 ∙ get_before w.wire longer.0 on.number _ on.at }

  on_wire_later : (before later : List Event) (t by : ℕ) (what : SynodMessage) → IsOnWire (after image plan before) t by what → IsOnWire (after image plan (before ++ later)) t by what
  unfolding after
  on_wire_later before later t by what on =
      subst (λ w. IsOnWire w t by what) (sym (run_both image plan before later (first_world plan))) (on_wire_still (run image plan (first_world plan) before) later t by what on)

pub after_chosen : StepsChoose → (image : List ℕ → List ℕ) (plan : PlanState) (before later : List Event) → IsPlan plan → AreEvents plan (before ++ later) →
    (t b : ℕ) (d : List ℕ) → IsChosen plan (after image plan before) t b d → (core : ℕ) (e : List ℕ) → held_in (after image plan (before ++ later)) core t ≡ Some e → e ≡ d
after_chosen law image plan before later is are t b d chosen core e =
    let w = after image plan (before ++ later) in
    let vote = (after_voted image plan is (before ++ later) are).vote t in
    let heard : (by : ℕ) (what : SynodMessage) → IsOnWire (after image plan before) t by what → Has vote.said (says by what) = λ by what sent.
    let on = on_wire_later image plan before later t by what sent in vote.heard on.number _ on.at refl by refl what refl in
    law (voters_of (core_plan_of plan) t) (votes_at w.seconds t) vote.said vote.reached b d chosen.who chosen.most chosen.by (heard chosen.by (message.BeginBallot b d) chosen.begun)
    (λ x yes. heard x (message.Voted b) (chosen.voted x yes)) core e
