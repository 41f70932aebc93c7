-- Logs under other numbers of requests agree as well.
use Rattle.std.proofs.Common.{◌≡◌, ℕ, ◌==◌, Bool, true, false, cond, List, [], ◌∷◌, length, map, refl, sym, ap, subst, ◌∙◌}
use Rattle.std.proofs.lemmas.Bool.{eqb-true}
use Rattle.ksi_synod.specs.CorePlans.{CorePlanState}
use Rattle.ksi_corenode.specs.SecondState.{SecondState}
use Rattle.ksi_corenode.specs.Turns.{Turn}
use Rattle.ksi_corenode.specs.CoreState.{CoreState, state_of}
use Rattle.ksi_corenode.specs.Rows.{restart_row, ballot_row, receive_row, tell_row, respond_row, publish_answer}
use Rattle.ksi_corenode.specs.declared.event.CoreEvent.{CoreEvent}
use Rattle.ksi_corenode.specs.declared.event.CoreEvent.TheVariants as core_events
use Rattle.ksi_corenode.specs.Events.{core_row}
use Rattle.ksi_corenode.specs.Turns as turns
use Rattle.ksi_aggregator.specs.Rows.{RoundState, round_restarted}
use Rattle.ksi_aggregator.specs.declared.event.RoundEvent.{RoundEvent}
use Rattle.ksi_aggregator.specs.declared.event.RoundEvent.TheVariants as round_events
use Rattle.ksi_aggregator.specs.Events.{round_row}
use Rattle.ksi_aggregator.specs.Renamed.{event_renamed, round_renamed, turn_renamed}
use Rattle.ksi_schedule.specs.declared.event.Event.{Event}
use Rattle.ksi_schedule.specs.Events.{AreEvents}
use Rattle.ksi_schedule.specs.Plans.{PlanState, core_plan_of}
use Rattle.ksi_world.specs.Histories.{WorldState, round_message}
use Rattle.ksi_records.specs.Logs.{Deed, AtAggregator, AtCore, AggregatorStarts, CoreStarts, Said, AreGiven, AggregatorAgrees, AggregatorsAgree, AreOutcomes, CoreAgrees, CoresAgree, Which, core_after, core_turn, renamed, round_after, round_says, said_renamed}
use Rattle.ksi_records.proofs.Together.{one_history}

-- the law of renaming
abbrev pub RowsAreRenamed : Type 0
RowsAreRenamed = (image : List ℕ → List ℕ) (name : ℕ → ℕ) (event : RoundEvent) (r : RoundState) → round_row image (event_renamed name event) (round_renamed name r) ≡ turn_renamed name (round_row image event r)

abbrev pub RestartsAreRenamed : Type 0
RestartsAreRenamed = (name : ℕ → ℕ) (r : RoundState) → round_restarted (round_renamed name r) ≡ round_renamed name (round_restarted r)

-- both where the test is the same
which_both : (b : Bool) {P Q R S : Type 0} → (P → R) → (Q → S) → Which b P Q → Which b R S
which_both true f g h = f h
which_both false f g h = g h

-- the same where the one statement is of the number that is tested, and holds of the other where both are one
which_at : (k i : ℕ) {P Q S : Type 0} (R : ℕ → Type 0) → (P → R k) → (Q → S) → Which (k == i) P Q → Which (k == i) (R i) S
which_at k i {P} {Q} {S} R f g = by (k == i) refl
  where
    by : (b : Bool) → (k == i) ≡ b → Which b P Q → Which b (R i) S
    by true is h = subst R (eqb-true k i is) (f h)
    by false is h = g h

-- a core's row is that of its seconds
pub row_of_seconds : (image : List ℕ → List ℕ) (plan : PlanState) (it : CoreState) (event : CoreEvent) → it.plan ≡ core_plan_of plan → it.start ≡ plan.start
    → core_row image it event ≡ core_turn image plan it.me (state_of it) event
row_of_seconds image plan it (core_events.Submission from t item) same start = refl
row_of_seconds image plan it (core_events.Seal t) same start = refl
row_of_seconds image plan it (core_events.Ballot t) same start = ap (λ (plan : CorePlanState). ballot_row plan t it.me (state_of it t)) same
row_of_seconds image plan it (core_events.Receive from t m) same start = ap (λ (plan : CorePlanState). receive_row plan t from m (state_of it t)) same
row_of_seconds image plan it (core_events.Tell t) same start = ap (λ (plan : CorePlanState). tell_row plan t it.me (state_of it t)) same
row_of_seconds image plan it (core_events.Respond t) same start = ap (λ (start : ℕ). respond_row image (λ u. (state_of it u).vote.held) start t (state_of it t)) start
row_of_seconds image plan it (core_events.Publish t) same start = ap (λ (start : ℕ). turns.still (state_of it t) (publish_answer image (λ u. (state_of it u).vote.held) start t)) start

module _ (image : List ℕ → List ℕ) (plan : PlanState) (name : (aggregator number : ℕ) → ℕ) where
  cores_renamed : (j : ℕ) (seconds : ℕ → SecondState) (deeds : List Deed) → CoreAgrees image plan j seconds deeds → CoreAgrees image plan j seconds (renamed name deeds)
  cores_renamed j seconds [] agree = tt
  cores_renamed j seconds (AtCore i event said ∷ deeds) agree =
      which_both (j == i) (λ both. (both.0, cores_renamed j (core_after image plan j seconds event) deeds both.1)) (λ others. cores_renamed j seconds deeds others) agree
  cores_renamed j seconds (AtAggregator k event said ∷ deeds) agree = cores_renamed j seconds deeds agree
  cores_renamed j seconds (CoreStarts i ∷ deeds) agree =
      which_both (j == i) (λ starts. cores_renamed j (λ t. restart_row (seconds t)) deeds starts) (λ others. cores_renamed j seconds deeds others) agree
  cores_renamed j seconds (AggregatorStarts k ∷ deeds) agree = cores_renamed j seconds deeds agree

  abbrev all_renamed : (k : ℕ) → (ℕ → RoundState) → ℕ → RoundState
  all_renamed k rounds t = round_renamed (name k) (rounds t)

  says_renamed : RowsAreRenamed → (k : ℕ) (rounds : ℕ → RoundState) (event : RoundEvent)
      → round_says image plan k (all_renamed k rounds) (event_renamed (name k) event) ≡ said_renamed (name k) (round_says image plan k rounds event)
  says_renamed law k rounds (round_events.Request number t imprint called) =
      λ i. record { answer = (law image (name k) (round_events.Request number t imprint called) (rounds t) i).answer; sent = map (round_message plan k t) (law image (name k) (round_events.Request number t imprint called) (rounds t) i).sends }
  says_renamed law k rounds (round_events.Submission from t item) =
      λ i. record { answer = (law image (name k) (round_events.Submission from t item) (rounds t) i).answer; sent = map (round_message plan k t) (law image (name k) (round_events.Submission from t item) (rounds t) i).sends }
  says_renamed law k rounds (round_events.Close t) =
      λ i. record { answer = (law image (name k) (round_events.Close t) (rounds t) i).answer; sent = map (round_message plan k t) (law image (name k) (round_events.Close t) (rounds t) i).sends }
  says_renamed law k rounds (round_events.Response t above) =
      λ i. record { answer = (law image (name k) (round_events.Response t above) (rounds t) i).answer; sent = map (round_message plan k t) (law image (name k) (round_events.Response t above) (rounds t) i).sends }

  after_where : (k : ℕ) (b : Bool) (new old other : RoundState) → other ≡ round_renamed (name k) new → cond b other (round_renamed (name k) old) ≡ round_renamed (name k) (cond b new old)
  after_where k true new old other is = is
  after_where k false new old other is = refl

  after_renamed : RowsAreRenamed → (k : ℕ) (rounds : ℕ → RoundState) (event : RoundEvent) → round_after image plan (all_renamed k rounds) (event_renamed (name k) event) ≡ all_renamed k (round_after image plan rounds event)
  after_renamed law k rounds (round_events.Request number t imprint called) =
      λ i u. after_where k (u == t) (round_row image (round_events.Request number t imprint called) (rounds t)).after (rounds u) _ (λ x. (law image (name k) (round_events.Request number t imprint called) (rounds t) x).after) i
  after_renamed law k rounds (round_events.Submission from t item) =
      λ i u. after_where k (u == t) (round_row image (round_events.Submission from t item) (rounds t)).after (rounds u) _ (λ x. (law image (name k) (round_events.Submission from t item) (rounds t) x).after) i
  after_renamed law k rounds (round_events.Close t) =
      λ i u. after_where k (u == t) (round_row image (round_events.Close t) (rounds t)).after (rounds u) _ (λ x. (law image (name k) (round_events.Close t) (rounds t) x).after) i
  after_renamed law k rounds (round_events.Response t above) =
      λ i u. after_where k (u == t) (round_row image (round_events.Response t above) (rounds t)).after (rounds u) _ (λ x. (law image (name k) (round_events.Response t above) (rounds t) x).after) i

  rounds_renamed : RowsAreRenamed → RestartsAreRenamed → (k : ℕ) (rounds : ℕ → RoundState) (deeds : List Deed) → AggregatorAgrees image plan k rounds deeds
      → AggregatorAgrees image plan k (all_renamed k rounds) (renamed name deeds)
  rounds_renamed law restarts k rounds [] agree = tt
  rounds_renamed law restarts k rounds (AtCore j event said ∷ deeds) agree = rounds_renamed law restarts k rounds deeds agree
  rounds_renamed law restarts k rounds (AtAggregator i event said ∷ deeds) agree =
      which_at k i (λ i. (said_renamed (name i) said ≡ round_says image plan k (all_renamed k rounds) (event_renamed (name i) event))
      × AggregatorAgrees image plan k (round_after image plan (all_renamed k rounds) (event_renamed (name i) event)) (renamed name deeds))
      (λ both. (
        ap (λ (said : Said). said_renamed (name k) said) both.0 ∙ sym (says_renamed law k rounds event),
        subst (λ (rounds : ℕ → RoundState). AggregatorAgrees image plan k rounds (renamed name deeds)) (sym (after_renamed law k rounds event))
            (rounds_renamed law restarts k (round_after image plan rounds event) deeds both.1),
      ))
      (λ others. rounds_renamed law restarts k rounds deeds others) agree
  rounds_renamed law restarts k rounds (CoreStarts j ∷ deeds) agree = rounds_renamed law restarts k rounds deeds agree
  rounds_renamed law restarts k rounds (AggregatorStarts i ∷ deeds) agree =
      which_both (k == i)
      (λ starts. subst (λ (rounds : ℕ → RoundState). AggregatorAgrees image plan k rounds (renamed name deeds)) (λ x t. sym (restarts (name k) (rounds t)) x)
      (rounds_renamed law restarts k (λ t. round_restarted (rounds t)) deeds starts))
      (λ others. rounds_renamed law restarts k rounds deeds others) agree

  pub renamed_history : RowsAreRenamed → RestartsAreRenamed → (w : WorldState) (rounds : ℕ → ℕ → RoundState) (deeds : List Deed) → ((k t : ℕ) → w.rounds k t ≡ round_renamed (name k) (rounds k t))
      → CoresAgree image plan w.seconds deeds → AggregatorsAgree image plan rounds deeds → AreGiven plan w.wire (length w.requests) (renamed name deeds)
      → (events : List Event) × AreEvents plan events × AreOutcomes image plan w (renamed name deeds) events
  renamed_history law restarts w rounds deeds same cores aggregators given =
      one_history image plan w (renamed name deeds) (λ j. cores_renamed j (w.seconds j) deeds (cores j))
      (λ k. subst (λ (rounds : ℕ → RoundState). AggregatorAgrees image plan k rounds (renamed name deeds)) (λ x t. sym (same k t) x) (rounds_renamed law restarts k (rounds k) deeds (aggregators k))) given
