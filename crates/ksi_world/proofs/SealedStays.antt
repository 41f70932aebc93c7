-- What a core sealed stays sealed, and is of a second of the plan.
use Rattle.ksi_schedule.specs.Plans.{core_plan_of}
use Rattle.std.proofs.Common.{◌≡◌, ℕ, ◌⊎◌, inl, inr, eqb, is_some, List, [], ◌∷◌, ◌++◌, refl, sym, ap, subst, ◌∙◌, Option, Some, None}
use Rattle.std.specs.Prelude.{slice_get}
use Rattle.std.proofs.lemmas.Bool.{cond_both}
use Rattle.ksi_aggtree.specs.declared.item.Item.{Item}
use Rattle.ksi_aggtree.specs.declared.entries.Entry.{Entry}
use Rattle.ksi_synod.specs.CorePlans.{CorePlanState}
use Rattle.ksi_synod.specs.declared.messages.SynodMessage.{SynodMessage}
use Rattle.ksi_corenode.specs.SecondState.{SecondState, fresh_second}
use Rattle.ksi_corenode.specs.Turns.{Turn}
use Rattle.ksi_calendar.specs.Covered.{Roots}
use Rattle.ksi_corenode.specs.Rows.{submission_row, seal_row, ballot_row, receive_row, tell_row, respond_row, restart_row}
use Rattle.ksi_schedule.specs.declared.actor.Actor.{Actor}
use Rattle.ksi_schedule.specs.declared.actor.Actor.TheVariants as actors
use Rattle.ksi_schedule.specs.declared.event.Event.{Event}
use Rattle.ksi_schedule.specs.declared.event.Event.TheVariants as events
use Rattle.ksi_schedule.specs.Plans.{PlanState, InRange}
use Rattle.ksi_schedule.specs.Events.{IsEvent, AreEvents}
use Rattle.ksi_world.specs.declared.message.Content.{Content}
use Rattle.ksi_world.specs.declared.message.Content.TheVariants as contents
use Rattle.ksi_world.specs.declared.message.Message.{Message}
use Rattle.ksi_world.specs.Histories.{WorldState, held_in, at_core, delivered, happens, first_world, run, after}
use Rattle.ksi_world.specs.Histories as histories
use Rattle.ksi_world.proofs.Growing.{put_cases, respond_after, run_both}

-- THE ROWS

abbrev Same : (s after : SecondState) → Type 0
Same s after = after.sealed ≡ s.sealed

submission_same : (from : ℕ) (item : Item) (s : SecondState) → Same s (submission_row from item s).after
unfolding submission_row
submission_same from item s = cond_both (is_some s.sealed) _ _ (λ (turn : Turn). Same s turn.after) (λ _. refl) (λ _. refl)

ballot_same : (core_plan : CorePlanState) (t j : ℕ) (s : SecondState) → Same s (ballot_row core_plan t j s).after
unfolding ballot_row
ballot_same core_plan t j s = refl

receive_same : (core_plan : CorePlanState) (t from : ℕ) (m : SynodMessage) (s : SecondState) → Same s (receive_row core_plan t from m s).after
unfolding receive_row
receive_same core_plan t from m s = refl

tell_same : (core_plan : CorePlanState) (t j : ℕ) (s : SecondState) → Same s (tell_row core_plan t j s).after
unfolding tell_row
tell_same core_plan t j s = refl

respond_same : (image : List ℕ → List ℕ) (held : Roots) (start t : ℕ) (s : SecondState) → Same s (respond_row image held start t s).after
respond_same image held start t s = ap (λ (s : SecondState). s.sealed) (respond_after image held start t s)

seal_stays : (image : List ℕ → List ℕ) (s : SecondState) (entries : List Entry) → s.sealed ≡ Some entries → (seal_row image s).after.sealed ≡ Some entries
unfolding seal_row
seal_stays image s entries is = cond_both (is_some s.sealed) _ _ (λ (turn : Turn). turn.after.sealed ≡ Some entries) (λ _. is)
    (λ open_yet. absurd (cc (open_yet, ap (λ (o : Option (List Entry)). is_some o) is)))

-- AN EVENT

-- nothing is sealed
abbrev Quiet : (w after : WorldState) → Type 0
Quiet w after = (i u : ℕ) → (after.seconds i u).sealed ≡ (w.seconds i u).sealed

-- the event seals a second
abbrev IsSeal : Event → Type 0
IsSeal e = (j : ℕ) × (t : ℕ) × (e ≡ events.Seal j t)

turn_quiet : (w : WorldState) (j t : ℕ) (turn : Turn) → Same (w.seconds j t) turn.after → Quiet w (at_core w j t turn).world
turn_quiet w j t turn same i u = put_cases w.seconds j t turn.after (λ (s : SecondState). s.sealed ≡ (w.seconds i u).sealed) i u
    (λ i_is u_is. same ∙ ap (λ n. (w.seconds n t).sealed) (sym i_is) ∙ ap (λ n. (w.seconds i n).sealed) (sym u_is)) refl

module _ (image : List ℕ → List ℕ) (plan : PlanState) where
  taken_quiet : (w : WorldState) (sender addressee : Actor) (t : ℕ) (content : Content) → Quiet w (histories.taken image plan w sender addressee t content).world
  taken_quiet w (actors.Core from) (actors.Core j) t (contents.Synod m) = turn_quiet w j t (receive_row (core_plan_of plan) t from m (w.seconds j t)) (receive_same (core_plan_of plan) t from m (w.seconds j t))
  taken_quiet w (actors.Core from) (actors.Core j) t (contents.Submission item) = λ i u. refl
  taken_quiet w (actors.Core from) (actors.Core j) t (contents.Response above) = λ i u. refl
  taken_quiet w (actors.Core from) (actors.Aggregator k) t (contents.Synod m) = λ i u. refl
  taken_quiet w (actors.Core from) (actors.Aggregator k) t (contents.Submission item) = λ i u. refl
  taken_quiet w (actors.Core from) (actors.Aggregator k) t (contents.Response above) = λ i u. refl
  taken_quiet w (actors.Aggregator from) (actors.Core j) t (contents.Synod m) = λ i u. refl
  taken_quiet w (actors.Aggregator from) (actors.Core j) t (contents.Submission item) = turn_quiet w j t (submission_row from item (w.seconds j t)) (submission_same from item (w.seconds j t))
  taken_quiet w (actors.Aggregator from) (actors.Core j) t (contents.Response above) = λ i u. refl
  taken_quiet w (actors.Aggregator from) (actors.Aggregator k) t (contents.Synod m) = λ i u. refl
  taken_quiet w (actors.Aggregator from) (actors.Aggregator k) t (contents.Submission item) = λ i u. refl
  taken_quiet w (actors.Aggregator from) (actors.Aggregator k) t (contents.Response above) = λ i u. refl

  delivered_quiet : (w : WorldState) (found : Option Message) → Quiet w (delivered image plan w found).world
  delivered_quiet w None = λ i u. refl
  delivered_quiet w (Some m) = taken_quiet w m.sender m.addressee m.second m.content

  quiet_or_seal : (w : WorldState) (e : Event) → Quiet w (happens image plan w e).world ⊎ IsSeal e
  unfolding happens
  quiet_or_seal w (events.Request k t imprint name) = inl (λ i u. refl)
  quiet_or_seal w (events.Close k t) = inl (λ i u. refl)
  quiet_or_seal w (events.Seal j t) = inr (j, t, refl)
  quiet_or_seal w (events.Ballot j t) = inl (turn_quiet w j t (ballot_row (core_plan_of plan) t j (w.seconds j t)) (ballot_same (core_plan_of plan) t j (w.seconds j t)))
  quiet_or_seal w (events.Deliver number) = inl (delivered_quiet w (slice_get w.wire number))
  quiet_or_seal w (events.Tell j t) = inl (turn_quiet w j t (tell_row (core_plan_of plan) t j (w.seconds j t)) (tell_same (core_plan_of plan) t j (w.seconds j t)))
  quiet_or_seal w (events.Respond j t) = inl (turn_quiet w j t (respond_row image (held_in w j) plan.start t (w.seconds j t)) (respond_same image (held_in w j) plan.start t (w.seconds j t)))
  quiet_or_seal w (events.Publish j p) = inl (λ i u. refl)
  quiet_or_seal w (events.RestartCore j) = inl (λ i u. cond_both (eqb i j) (restart_row (w.seconds i u)) (w.seconds i u) (λ (s : SecondState). s.sealed ≡ (w.seconds i u).sealed) (λ _. refl) (λ _. refl))
  quiet_or_seal w (events.RestartAggregator k) = inl (λ i u. refl)

  sealing : (w : WorldState) (j t i u : ℕ) (entries : List Entry) → (w.seconds i u).sealed ≡ Some entries → ((happens image plan w (events.Seal j t)).world.seconds i u).sealed ≡ Some entries
  unfolding happens
  sealing w j t i u entries is = put_cases w.seconds j t (seal_row image (w.seconds j t)).after (λ (s : SecondState). s.sealed ≡ Some entries) i u
      (λ i_is u_is. seal_stays image (w.seconds j t) entries (ap (λ n. (w.seconds n t).sealed) (sym i_is) ∙ ap (λ n. (w.seconds i n).sealed) (sym u_is) ∙ is)) is

  stays : (w : WorldState) (e : Event) (i u : ℕ) (entries : List Entry) → (w.seconds i u).sealed ≡ Some entries → ((happens image plan w e).world.seconds i u).sealed ≡ Some entries
  stays w e i u entries is = elim (quiet_or_seal w e) [
    | inl quiet ↦ quiet i u ∙ is
    | inr seals ↦ subst (λ e. ((happens image plan w e).world.seconds i u).sealed ≡ Some entries) (sym seals.2) (sealing w seals.0 seals.1 i u entries is)
  ]

  -- what is sealed is of the plan's seconds
  abbrev InPlan : WorldState → Type 0
  InPlan w = (i u : ℕ) (entries : List Entry) → (w.seconds i u).sealed ≡ Some entries → InRange plan u

  sealed_within : (w : WorldState) (j t : ℕ) → InRange plan t → InPlan w → InPlan (happens image plan w (events.Seal j t)).world
  unfolding happens
  sealed_within w j t range within i u entries = put_cases w.seconds j t (seal_row image (w.seconds j t)).after (λ (s : SecondState). s.sealed ≡ Some entries → InRange plan u) i u
      (λ i_is u_is _. subst (InRange plan) (sym u_is) range) (within i u entries)

  happens_within : (w : WorldState) (e : Event) → IsEvent plan e → InPlan w → InPlan (happens image plan w e).world
  happens_within w e at within = elim (quiet_or_seal w e) [
    | inl quiet ↦ λ i u entries is. within i u entries (sym (quiet i u) ∙ is)
    | inr seals ↦ let seal : IsEvent plan (events.Seal seals.0 seals.1) = subst (IsEvent plan) seals.2 at in
        subst (λ e. InPlan (happens image plan w e).world) (sym seals.2) (sealed_within w seals.0 seals.1 seal.1 within)
  ]

  -- A HISTORY

  run_stays : (es : List Event) (w : WorldState) (i u : ℕ) (entries : List Entry) → (w.seconds i u).sealed ≡ Some entries → ((run image plan w es).seconds i u).sealed ≡ Some entries
  run_stays [] w i u entries is = is
  run_stays (e ∷ es) w i u entries is = run_stays es (happens image plan w e).world i u entries (stays w e i u entries is)

  pub after_stays : (before later : List Event) (i u : ℕ) (entries : List Entry) → ((after image plan before).seconds i u).sealed ≡ Some entries → ((after image plan (before ++ later)).seconds i u).sealed ≡ Some entries
  unfolding after
  after_stays before later i u entries is =
      subst (λ (w : WorldState). (w.seconds i u).sealed ≡ Some entries) (sym (run_both image plan before later (first_world plan))) (run_stays later (run image plan (first_world plan) before) i u entries is)

  run_within : (es : List Event) (w : WorldState) → AreEvents plan es → InPlan w → InPlan (run image plan w es)
  run_within [] w are within = within
  run_within (e ∷ es) w are within = run_within es (happens image plan w e).world are.1 (happens_within w e are.0 within)

  first_within : InPlan (first_world plan)
  unfolding first_world fresh_second
  first_within i u entries is = absurd (cc is)

  pub after_within : (es : List Event) → AreEvents plan es → InPlan (after image plan es)
  unfolding after
  after_within es are = run_within es (first_world plan) are first_within
