-- Logs that agree, each by itself, are of one history.
use Rattle.std.proofs.Common.{◌≡◌, ℕ, ◌==◌, ◌&&◌, Bool, true, false, cond, List, [], ◌∷◌, ◌++◌, length, map, Option, refl, sym, ap, subst, ◌∙◌, arith, eq-eqb, length-append}
use Rattle.std.proofs.lemmas.Bool.{eqb-true}
use Rattle.std.proofs.lemmas.List.{append-nil}
use Rattle.ksi_signature.specs.declared.answer.Answer.{Answer}
use Rattle.ksi_signature.specs.declared.answer.Answer.TheVariants as answers
use Rattle.ksi_corenode.specs.SecondState.{SecondState}
use Rattle.ksi_corenode.specs.Turns.{Turn, still}
use Rattle.ksi_corenode.specs.Rows.{restart_row}
use Rattle.ksi_corenode.specs.declared.event.CoreEvent.{CoreEvent}
use Rattle.ksi_corenode.specs.declared.event.CoreEvent.TheVariants as core_events
use Rattle.ksi_corenode.specs.Events as of_core
use Rattle.ksi_aggregator.specs.Rows.{RoundState, RoundTurn, round_restarted}
use Rattle.ksi_aggregator.specs.declared.event.RoundEvent.{RoundEvent}
use Rattle.ksi_aggregator.specs.declared.event.RoundEvent.TheVariants as round_events
use Rattle.ksi_aggregator.specs.Events as of_round
use Rattle.ksi_schedule.specs.declared.actor.Actor.TheVariants as actors
use Rattle.ksi_schedule.specs.declared.event.Event.{Event}
use Rattle.ksi_schedule.specs.declared.event.Event.TheVariants as events
use Rattle.ksi_schedule.specs.Plans.{PlanState}
use Rattle.ksi_schedule.specs.Events.{AreEvents, IsEvent}
use Rattle.ksi_world.specs.declared.message.Message.{Message}
use Rattle.ksi_world.specs.declared.outcome.Asked.{Asked}
use Rattle.ksi_world.specs.Histories.{WorldState, Happening, asked_with, at_core, at_round, core_message, core_restarts, aggregator_restarts, delivered, happens, publish_happens, put_at, request_happens, round_message}
use Rattle.ksi_records.specs.Logs.{Deed, AtAggregator, AtCore, AggregatorStarts, CoreStarts, Said, AreGiven, AggregatorAgrees, AggregatorsAgree, AreOutcomes, CoreAgrees, CoresAgree, IsEventAtAggregator, IsEventAtCore, IsGivenToAggregator, IsGivenToCore, Which, accepted_after, accepted_with, core_after, core_says, core_turn, round_after, round_says}

-- WHAT AN EVENT OF A CORE DOES

record CoreDoes (w : WorldState) (h : Happening) (j second : ℕ) (turn : Turn) : Type 0 where
  seconds : (i u : ℕ) → h.world.seconds i u ≡ put_at w.seconds j second turn.after i u
  rounds : h.world.rounds ≡ w.rounds
  wire : h.world.wire ≡ w.wire ++ map (core_message j second) turn.sends
  requests : h.world.requests ≡ w.requests
  answer : h.outcome.answer ≡ turn.answer

at_core_does : (w : WorldState) (j t : ℕ) (turn : Turn) → CoreDoes w (at_core w j t turn) j t turn
at_core_does w j t turn = record {
  seconds = λ i u. refl;
  rounds = refl;
  wire = refl;
  requests = refl;
  answer = refl;
}

same_put : (f : ℕ → ℕ → SecondState) (j t i u : ℕ) (here there : Bool) → (i == j) ≡ here → (u == t) ≡ there → f i u ≡ cond (here && there) (f j t) (f i u)
same_put f j t i u false there is at = refl
same_put f j t i u true false is at = refl
same_put f j t i u true true is at = λ k. f (eqb-true i j is k) (eqb-true u t at k)

publish_does : (w : WorldState) (j t : ℕ) (answer : Answer) → CoreDoes w (publish_happens w t answer) j t (still (w.seconds j t) answer)
publish_does w j t answer = record {
  seconds = λ i u. same_put w.seconds j t i u (i == j) (u == t) refl refl;
  rounds = refl;
  wire = sym (append-nil w.wire);
  requests = refl;
  answer = refl;
}

-- WHAT ONE OF AN AGGREGATOR DOES

record RoundDoes (plan : PlanState) (w : WorldState) (h : Happening) (k second : ℕ) (turn : RoundTurn) (accepted : ℕ) : Type 0 where
  rounds : (i u : ℕ) → h.world.rounds i u ≡ put_at w.rounds k second turn.after i u
  seconds : h.world.seconds ≡ w.seconds
  wire : h.world.wire ≡ w.wire ++ map (round_message plan k second) turn.sends
  requests : length h.world.requests ≡ accepted
  answer : h.outcome.answer ≡ turn.answer

at_round_does : (plan : PlanState) (w : WorldState) (k t : ℕ) (turn : RoundTurn) → RoundDoes plan w (at_round plan w k t turn) k t turn (length w.requests)
at_round_does plan w k t turn = record {
  rounds = λ i u. refl;
  seconds = refl;
  wire = refl;
  requests = refl;
  answer = refl;
}

one_accepted : (requests : List Asked) (new : Asked) (answer : Answer) → length (asked_with requests new answer) ≡ accepted_with (length requests) answer
one_accepted requests new answers.Done = refl
one_accepted requests new (answers.Number number) = omega (arith, length-append requests (new ∷ []))
one_accepted requests new (answers.Published root) = refl
one_accepted requests new answers.Late = refl
one_accepted requests new answers.Known = refl
one_accepted requests new answers.Full = refl
one_accepted requests new answers.Unsealed = refl
one_accepted requests new answers.Sealed = refl
one_accepted requests new answers.Closed = refl
one_accepted requests new (answers.Undecided second) = refl
one_accepted requests new answers.NotMine = refl
one_accepted requests new answers.Nothing = refl
one_accepted requests new answers.Last = refl

module _ (image : List ℕ → List ℕ) (plan : PlanState) where
  -- the event of what a core took, and what it does
  core_event : (w : WorldState) (j : ℕ) (event : CoreEvent) → IsGivenToCore plan w.wire j event
      → (e : Event) × IsEvent plan e × IsEventAtCore w.wire e j event × CoreDoes w (happens image plan w e) j (of_core.event_second event) (core_turn image plan j (w.seconds j) event)
  unfolding happens
  core_event w j (core_events.Submission from t item) given = (
    events.Deliver given.0,
    tt,
    (given.0, refl, given.1),
    subst (λ (found : Option Message). CoreDoes w (delivered image plan w found) j t (core_turn image plan j (w.seconds j) (core_events.Submission from t item))) (sym given.1) (at_core_does w j t _),
  )
  core_event w j (core_events.Receive from t m) given = (
    events.Deliver given.0,
    tt,
    (given.0, refl, given.1),
    subst (λ (found : Option Message). CoreDoes w (delivered image plan w found) j t (core_turn image plan j (w.seconds j) (core_events.Receive from t m))) (sym given.1) (at_core_does w j t _),
  )
  core_event w j (core_events.Seal t) given = (events.Seal j t, given, refl, at_core_does w j t _)
  core_event w j (core_events.Ballot t) given = (events.Ballot j t, given, refl, at_core_does w j t _)
  core_event w j (core_events.Tell t) given = (events.Tell j t, given, refl, at_core_does w j t _)
  core_event w j (core_events.Respond t) given = (events.Respond j t, given, refl, at_core_does w j t _)
  core_event w j (core_events.Publish t) given = (events.Publish j t, given, refl, publish_does w j t _)

  -- what an aggregator took
  round_event : (w : WorldState) (k : ℕ) (event : RoundEvent) → IsGivenToAggregator plan w.wire (length w.requests) k event
      → (e : Event) × IsEvent plan e × IsEventAtAggregator w.wire e k event
      × RoundDoes plan w (happens image plan w e) k (of_round.event_second event) (of_round.round_row image event (w.rounds k (of_round.event_second event)))
      (accepted_after (length w.requests) event (round_says image plan k (w.rounds k) event))
  unfolding happens
  round_event w k (round_events.Request number t imprint name) given =
      let turn = of_round.round_row image (round_events.Request (length w.requests) t imprint name) (w.rounds k t) in
      let does : RoundDoes plan w (request_happens plan w k t imprint name) k t turn (accepted_with (length w.requests) turn.answer) = record {
        rounds = λ i u. refl;
        seconds = refl;
        wire = refl;
        requests = one_accepted w.requests _ turn.answer;
        answer = refl;
      } in (
        events.Request k t imprint name,
        (given.1, given.2, given.3),
        refl,
        subst (λ (number : ℕ). RoundDoes plan w (request_happens plan w k t imprint name) k t (of_round.round_row image (round_events.Request number t imprint name) (w.rounds k t))
            (accepted_with (length w.requests) (of_round.round_row image (round_events.Request number t imprint name) (w.rounds k t)).answer)) (sym given.0) does,
      )
  round_event w k (round_events.Submission from t item) given = (
    events.Deliver given.0,
    tt,
    (given.0, refl, given.1),
    subst (λ (found : Option Message). RoundDoes plan w (delivered image plan w found) k t (of_round.round_row image (round_events.Submission from t item) (w.rounds k t)) (length w.requests))
        (sym given.1) (at_round_does plan w k t _),
  )
  round_event w k (round_events.Close t) given = (events.Close k t, given, refl, at_round_does plan w k t _)
  round_event w k (round_events.Response t above) (actors.Core j, was) = (
    events.Deliver was.0,
    tt,
    (actors.Core j, (was.0, refl, was.1)),
    subst (λ (found : Option Message). RoundDoes plan w (delivered image plan w found) k t (of_round.round_row image (round_events.Response t above) (w.rounds k t)) (length w.requests))
        (sym was.1) (at_round_does plan w k t _),
  )
  round_event w k (round_events.Response t above) (actors.Aggregator from, was) = (
    events.Deliver was.0,
    tt,
    (actors.Aggregator from, (was.0, refl, was.1)),
    subst (λ (found : Option Message). RoundDoes plan w (delivered image plan w found) k t (of_round.round_row image (round_events.Response t above) (w.rounds k t)) (length w.requests))
        (sym was.1) (at_round_does plan w k t _),
  )

  -- THE LOGS OF ALL OTHER NODES STAY, AND THAT OF THE NODE GOES ON

  own_core : (w : WorldState) (j : ℕ) (event : CoreEvent) (said : Said) (deeds : List Deed) → CoresAgree image plan w.seconds (AtCore j event said ∷ deeds)
      → (said ≡ core_says image plan j (w.seconds j) event) × CoreAgrees image plan j (core_after image plan j (w.seconds j) event) deeds
  own_core w j event said deeds agree =
      subst (λ (b : Bool). Which b ((said ≡ core_says image plan j (w.seconds j) event) × CoreAgrees image plan j (core_after image plan j (w.seconds j) event) deeds) (CoreAgrees image plan j (w.seconds j) deeds))
      (eq-eqb j j refl) (agree j)

  cores_go_on : (w : WorldState) (h : Happening) (j : ℕ) (event : CoreEvent) (said : Said) (deeds : List Deed)
      → CoreDoes w h j (of_core.event_second event) (core_turn image plan j (w.seconds j) event) → CoresAgree image plan w.seconds (AtCore j event said ∷ deeds) → CoresAgree image plan h.world.seconds deeds
  cores_go_on w h j event said deeds does agree i = by (i == j) refl
    where
      t : ℕ
      t = of_core.event_second event

      new : SecondState
      new = (core_turn image plan j (w.seconds j) event).after

      by : (here : Bool) → (i == j) ≡ here → CoreAgrees image plan i (h.world.seconds i) deeds
      by true is =
          let after : core_after image plan j (w.seconds j) event ≡ h.world.seconds j =
          λ k u. sym (does.seconds j u ∙ ap (λ (b : Bool). cond (b && (u == of_core.event_second event)) (core_turn image plan j (w.seconds j) event).after (w.seconds j u)) (eq-eqb j j refl)) k in
          subst (λ (i : ℕ). CoreAgrees image plan i (h.world.seconds i) deeds) (sym (eqb-true i j is))
          (subst (λ (seconds : ℕ → SecondState). CoreAgrees image plan j seconds deeds) after (own_core w j event said deeds agree).1)
      by false is =
          let stays : w.seconds i ≡ h.world.seconds i =
          λ k u. sym (does.seconds i u ∙ ap (λ (b : Bool). cond (b && (u == of_core.event_second event)) (core_turn image plan j (w.seconds j) event).after (w.seconds i u)) is) k in
          let others = subst (λ (b : Bool). Which b ((said ≡ core_says image plan i (w.seconds i) event) × CoreAgrees image plan i (core_after image plan i (w.seconds i) event) deeds) (CoreAgrees image plan i (w.seconds i) deeds)) is (agree i) in
          subst (λ (seconds : ℕ → SecondState). CoreAgrees image plan i seconds deeds) stays others

  own_round : (w : WorldState) (k : ℕ) (event : RoundEvent) (said : Said) (deeds : List Deed) → AggregatorsAgree image plan w.rounds (AtAggregator k event said ∷ deeds)
      → (said ≡ round_says image plan k (w.rounds k) event) × AggregatorAgrees image plan k (round_after image plan (w.rounds k) event) deeds
  own_round w k event said deeds agree =
      subst (λ (b : Bool). Which b ((said ≡ round_says image plan k (w.rounds k) event) × AggregatorAgrees image plan k (round_after image plan (w.rounds k) event) deeds) (AggregatorAgrees image plan k (w.rounds k) deeds))
      (eq-eqb k k refl) (agree k)

  rounds_go_on : (w : WorldState) (h : Happening) (k : ℕ) (event : RoundEvent) (said : Said) (accepted : ℕ) (deeds : List Deed)
      → RoundDoes plan w h k (of_round.event_second event) (of_round.round_row image event (w.rounds k (of_round.event_second event))) accepted
      → AggregatorsAgree image plan w.rounds (AtAggregator k event said ∷ deeds) → AggregatorsAgree image plan h.world.rounds deeds
  rounds_go_on w h k event said accepted deeds does agree i = by (i == k) refl
    where
      by : (here : Bool) → (i == k) ≡ here → AggregatorAgrees image plan i (h.world.rounds i) deeds
      by true is =
          let after : round_after image plan (w.rounds k) event ≡ h.world.rounds k =
          λ x u. sym (does.rounds k u ∙ ap (λ (b : Bool). cond (b && (u == of_round.event_second event)) (of_round.round_row image event (w.rounds k (of_round.event_second event))).after (w.rounds k u)) (eq-eqb k k refl)) x in
          subst (λ (i : ℕ). AggregatorAgrees image plan i (h.world.rounds i) deeds) (sym (eqb-true i k is))
          (subst (λ (rounds : ℕ → RoundState). AggregatorAgrees image plan k rounds deeds) after (own_round w k event said deeds agree).1)
      by false is =
          let stays : w.rounds i ≡ h.world.rounds i =
          λ x u. sym (does.rounds i u ∙ ap (λ (b : Bool). cond (b && (u == of_round.event_second event)) (of_round.round_row image event (w.rounds k (of_round.event_second event))).after (w.rounds i u)) is) x in
          let others = subst (λ (b : Bool). Which b ((said ≡ round_says image plan i (w.rounds i) event) × AggregatorAgrees image plan i (round_after image plan (w.rounds i) event) deeds) (AggregatorAgrees image plan i (w.rounds i) deeds)) is (agree i) in
          subst (λ (rounds : ℕ → RoundState). AggregatorAgrees image plan i rounds deeds) stays others

  cores_start : (w : WorldState) (j : ℕ) (deeds : List Deed) → CoresAgree image plan w.seconds (CoreStarts j ∷ deeds) → CoresAgree image plan (core_restarts w j).world.seconds deeds
  cores_start w j deeds agree i = by (i == j) (agree i)
    where
      by : (here : Bool) → Which here (CoreAgrees image plan i (λ t. restart_row (w.seconds i t)) deeds) (CoreAgrees image plan i (w.seconds i) deeds)
          → CoreAgrees image plan i (λ t. cond here (restart_row (w.seconds i t)) (w.seconds i t)) deeds
      by true is = is
      by false is = is

  rounds_start : (w : WorldState) (k : ℕ) (deeds : List Deed) → AggregatorsAgree image plan w.rounds (AggregatorStarts k ∷ deeds) → AggregatorsAgree image plan (aggregator_restarts w k).world.rounds deeds
  rounds_start w k deeds agree i = by (i == k) (agree i)
    where
      by : (here : Bool) → Which here (AggregatorAgrees image plan i (λ t. round_restarted (w.rounds i t)) deeds) (AggregatorAgrees image plan i (w.rounds i) deeds)
          → AggregatorAgrees image plan i (λ t. cond here (round_restarted (w.rounds i t)) (w.rounds i t)) deeds
      by true is = is
      by false is = is

  core_starts : (w : WorldState) (j : ℕ) → happens image plan w (events.RestartCore j) ≡ core_restarts w j
  unfolding happens
  core_starts w j = refl

  aggregator_starts : (w : WorldState) (k : ℕ) → happens image plan w (events.RestartAggregator k) ≡ aggregator_restarts w k
  unfolding happens
  aggregator_starts w k = refl

  abbrev Whole : WorldState → List Deed → Type 0
  Whole w deeds = (es : List Event) × AreEvents plan es × AreOutcomes image plan w deeds es

  pub one_history : (w : WorldState) (deeds : List Deed) → CoresAgree image plan w.seconds deeds → AggregatorsAgree image plan w.rounds deeds → AreGiven plan w.wire (length w.requests) deeds → Whole w deeds
  one_history w [] cores aggregators given = ([], tt, tt)
  one_history w (AtCore j event said ∷ deeds) cores aggregators given =
      let found = core_event w j event given.0 in
      let h = happens image plan w found.0 in
      let does = found.3 in
      let is = (own_core w j event said deeds cores).0 in
      let wire : h.world.wire ≡ w.wire ++ said.sent = does.wire ∙ ap (λ (said : Said). w.wire ++ said.sent) (sym is) in
      let rest = one_history h.world deeds (cores_go_on w h j event said deeds does cores)
      (subst (λ (rounds : ℕ → ℕ → RoundState). AggregatorsAgree image plan rounds deeds) (sym does.rounds) aggregators)
      (subst (λ (requests : List Asked). AreGiven plan h.world.wire (length requests) deeds) (sym does.requests)
      (subst (λ (wire : List Message). AreGiven plan wire (length w.requests) deeds) (sym wire) given.1)) in
      (found.0 ∷ rest.0, (found.1, rest.1), ((found.2, record { answer = does.answer ∙ ap (λ (said : Said). said.answer) (sym is); sent = wire }), rest.2))
  one_history w (AtAggregator k event said ∷ deeds) cores aggregators given =
      let found = round_event w k event given.0 in
      let h = happens image plan w found.0 in
      let does = found.3 in
      let is = (own_round w k event said deeds aggregators).0 in
      let wire : h.world.wire ≡ w.wire ++ said.sent = does.wire ∙ ap (λ (said : Said). w.wire ++ said.sent) (sym is) in
      let accepted : length h.world.requests ≡ accepted_after (length w.requests) event said = does.requests ∙ ap (λ (said : Said). accepted_after (length w.requests) event said) (sym is) in
      let rest = one_history h.world deeds (subst (λ (seconds : ℕ → ℕ → SecondState). CoresAgree image plan seconds deeds) (sym does.seconds) cores)
      (rounds_go_on w h k event said _ deeds does aggregators)
      (subst (λ (accepted : ℕ). AreGiven plan h.world.wire accepted deeds) (sym accepted)
      (subst (λ (wire : List Message). AreGiven plan wire (accepted_after (length w.requests) event said) deeds) (sym wire) given.1)) in
      (found.0 ∷ rest.0, (found.1, rest.1), ((found.2, record { answer = does.answer ∙ ap (λ (said : Said). said.answer) (sym is); sent = wire }), rest.2))
  one_history w (CoreStarts j ∷ deeds) cores aggregators given =
      let rest = one_history (core_restarts w j).world deeds (cores_start w j deeds cores) aggregators given.1 in
      (events.RestartCore j ∷ rest.0, (given.0, rest.1), (refl, subst (λ (h : Happening). AreOutcomes image plan h.world deeds rest.0) (sym (core_starts w j)) rest.2))
  one_history w (AggregatorStarts k ∷ deeds) cores aggregators given =
      let rest = one_history (aggregator_restarts w k).world deeds cores (rounds_start w k deeds aggregators) given.1 in
      (events.RestartAggregator k ∷ rest.0, (given.0, rest.1), (refl, subst (λ (h : Happening). AreOutcomes image plan h.world deeds rest.0) (sym (aggregator_starts w k)) rest.2))
