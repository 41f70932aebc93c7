-- A step of the code's node is that of the node in a log.
use Rattle.std.proofs.Common.{◌≡◌, ℕ, List, [], ◌∷◌, map, Option, Some, None, option_map, is_some, refl, sym, ap, subst, ◌∙◌}
use Rattle.ksi_schedule.specs.Pieces.{Text}
use Rattle.ksi_schedule.specs.Plans.{PlanState}
use Rattle.ksi_schedule.specs.declared.actor.Actor.{Actor}
use Rattle.ksi_schedule.specs.declared.actor.Actor.TheVariants as actors
use Rattle.ksi_corenode.specs.SecondState.{SecondState}
use Rattle.ksi_corenode.specs.CoreState.{CoreState, IsTurn, state_of}
use Rattle.ksi_corenode.specs.Events.{core_row, event_second, IsAsked, MayTake}
use Rattle.ksi_corenode.specs.Turns.{Turn}
use Rattle.ksi_corenode.specs.declared.event.CoreEvent.{CoreEvent}
use Rattle.ksi_corenode.specs.declared.step.Send as core_send
use Rattle.ksi_corenode.specs.declared.step.Send.TheVariants as core_sends
use Rattle.ksi_corenode.specs.declared.step.Step as core_step
use Rattle.ksi_aggregator.specs.Rows.{RoundState, round_restarted}
use Rattle.ksi_aggregator.specs.Rounds as rounds
use Rattle.ksi_aggregator.specs.Events as of_round
use Rattle.ksi_aggregator.specs.declared.event.RoundEvent.{RoundEvent}
use Rattle.ksi_aggregator.specs.declared.step.Send as round_send
use Rattle.ksi_aggregator.specs.declared.step.Send.TheVariants as round_sends
use Rattle.ksi_aggregator.specs.declared.step.Step as round_step
use Rattle.ksi_world.specs.Histories.{core_message, round_message}
use Rattle.ksi_wire.specs.Steps.{core_send_words, core_step_text, round_send_words, round_step_text, step_text}
use Rattle.ksi_records.specs.Logs.{changed, core_after, core_turn, round_after}
use Rattle.ksi_records.specs.Texts.{message_words}
use Rattle.ksi_records.proofs.Renaming.{row_of_seconds}
use Rattle.ksi_records.specs.declared.node.head.Given.TheVariants as given
use Rattle.ksi_records.specs.declared.node.runs.Node.TheVariants as nodes
use Rattle.ksi_records.specs.Node.Runs.{NodeState, block_to, restarted, state_after}
use Rattle.ksi_records.specs.Node.Steps.{Fits, IsAt, IsCoreAt, IsNode, IsSaid}

some_mapped : {A B : Type 0} (f : A → B) (x : Option A) → is_some (option_map f x) ≡ is_some x
some_mapped f None = refl
some_mapped f (Some a) = refl

core_sent : (j t : ℕ) (sends : List core_send.Send) → map (core_send_words j t) sends ≡ map message_words (map (core_message j t) sends)
core_sent j t [] = refl
core_sent j t (core_sends.Synod to m ∷ sends) = ap (λ (rest : List (List Text)). core_send_words j t (core_sends.Synod to m) ∷ rest) (core_sent j t sends)
core_sent j t (core_sends.Response to above ∷ sends) = ap (λ (rest : List (List Text)). core_send_words j t (core_sends.Response to above) ∷ rest) (core_sent j t sends)

round_sent : (plan : PlanState) (k t : ℕ) (sends : List round_send.Send) → map (round_send_words plan k t) sends ≡ map message_words (map (round_message plan k t) sends)
round_sent plan k t [] = refl
round_sent plan k t (round_sends.Submission item ∷ sends) = ap (λ (rest : List (List Text)). round_send_words plan k t (round_sends.Submission item) ∷ rest) (round_sent plan k t sends)
round_sent plan k t (round_sends.Response to above ∷ sends) = ap (λ (rest : List (List Text)). round_send_words plan k t (round_sends.Response to above) ∷ rest) (round_sent plan k t sends)

module _ (image : List ℕ → List ℕ) (plan : PlanState) where
  -- a step of a core
  pub core_goes_on : (j i : ℕ) (old new : CoreState) (it : NodeState) (event : CoreEvent) (step : core_step.Step) (text : Text) → i ≡ j → IsCoreAt plan j old it
      → IsTurn old new (event_second event) (core_row image old event) step → text ≡ core_step_text i (event_second event) step
      → (text ≡ block_to image plan it (given.ToCore i event)) × IsCoreAt plan j new (state_after image plan it (given.ToCore i event))
  core_goes_on j i old new it event step text own at turn is = (is ∙ said, record { me = turn.me ∙ at.me; of_plan = turn.plan ∙ at.of_plan; start = turn.start ∙ at.start; seconds = seconds })
    where
      t : ℕ
      t = event_second event

      row : core_row image old event ≡ core_turn image plan i it.seconds event
      row = row_of_seconds image plan old event at.of_plan at.start ∙ (λ k. core_turn image plan ((at.me ∙ sym own) k) (at.seconds k) event)

      of_row : IsTurn old new t (core_turn image plan i it.seconds event) step
      of_row = subst (λ (turn : Turn). IsTurn old new t turn step) row turn

      seconds : state_of new ≡ core_after image plan i it.seconds event
      seconds = λ k u. (of_row.seconds u ∙ ap (λ (was : ℕ → SecondState). changed was t (core_turn image plan i it.seconds event).after u) at.seconds) k

      said : core_step_text i t step ≡ block_to image plan it (given.ToCore i event)
      said =
          let stored : is_some step.fact ≡ is_some (core_turn image plan i it.seconds event).fact =
          ap (λ (fact : Option _). is_some fact) of_row.fact ∙ some_mapped _ (core_turn image plan i it.seconds event).fact in
          λ k. step_text (of_row.answer k) (stored k) ((ap (λ (sends : List core_send.Send). map (core_send_words i t) sends) of_row.sends ∙ core_sent i t (core_turn image plan i it.seconds event).sends) k)

  -- a step of an aggregator
  pub round_goes_on : (i : ℕ) (old new : ℕ → RoundState) (it : NodeState) (event : RoundEvent) (step : round_step.Step) (text : Text) → old ≡ it.rounds
      → rounds.IsTurn old new (of_round.event_second event) (of_round.round_row image event (old (of_round.event_second event))) step
      → text ≡ round_step_text plan i (of_round.event_second event) step.answer (is_some step.fact) step.sends
      → (text ≡ block_to image plan it (given.ToAggregator i event)) × (new ≡ round_after image plan it.rounds event)
  round_goes_on i old new it event step text at turn is = (is ∙ said, after)
    where
      t : ℕ
      t = of_round.event_second event

      of_rounds : rounds.IsTurn it.rounds new t (of_round.round_row image event (it.rounds t)) step
      of_rounds = subst (λ (old : ℕ → RoundState). rounds.IsTurn old new t (of_round.round_row image event (old t)) step) at turn

      after : new ≡ round_after image plan it.rounds event
      after = λ k u. of_rounds.after u k

      said : round_step_text plan i t step.answer (is_some step.fact) step.sends ≡ block_to image plan it (given.ToAggregator i event)
      said =
          let stored : is_some step.fact ≡ is_some (of_round.round_row image event (it.rounds t)).fact =
          ap (λ (fact : Option _). is_some fact) of_rounds.fact ∙ some_mapped _ (of_round.round_row image event (it.rounds t)).fact in
          λ k. step_text (of_rounds.answer k) (stored k)
          ((ap (λ (sends : List round_send.Send). map (round_send_words plan i t) sends) of_rounds.sends ∙ round_sent plan i t (of_round.round_row image event (it.rounds t)).sends) k)

  -- ---- what is said

  -- the event may be taken
  pub core_may : (C : Type 0) (me : Actor) (core : CoreState) (i : ℕ) (event : CoreEvent) → Fits plan me (given.ToCore i event) → IsNode {C = C} plan me (nodes.Core core)
      → MayTake core event × IsAsked core (event_second event)
  core_may C (actors.Core j) core i event fits node = fits.1 core node.1.start
  core_may C (actors.Aggregator k) core i event fits node = absurd fits

  pub said_by_core : (C : Type 0) (me : Actor) (old new : CoreState) (it : NodeState) (i : ℕ) (event : CoreEvent) (said text : Text) → Fits plan me (given.ToCore i event)
      → IsAt {C = C} plan me (nodes.Core old) it
      → ((step : core_step.Step) × IsTurn old new (event_second event) (core_row image old event) step × (text ≡ core_step_text i (event_second event) step)) → said ≡ text
      → IsSaid image plan me {C = C} it (given.ToCore i event) (nodes.Core new) (Some said)
  said_by_core C (actors.Core j) old new it i event said text fits at told is =
      let goes = core_goes_on j i old new it event told.0 text fits.0 at told.1 told.2 in
      (tt, is ∙ goes.0, goes.1)
  said_by_core C (actors.Aggregator k) old new it i event said text fits at told is = absurd fits

  pub said_by_round : (C : Type 0) (me : Actor) (old new : rounds.AggregatorState) (it : NodeState) (i : ℕ) (event : RoundEvent) (said text : Text) → Fits plan me (given.ToAggregator i event)
      → IsAt {C = C} plan me (nodes.Aggregator old) it → new.me ≡ old.me → of_round.MayTake (rounds.rounds_of old) event
      → ((step : round_step.Step)
      × rounds.IsTurn (rounds.rounds_of old) (rounds.rounds_of new) (of_round.event_second event) (of_round.round_row image event (rounds.rounds_of old (of_round.event_second event))) step
      × (text ≡ round_step_text plan i (of_round.event_second event) step.answer (is_some step.fact) step.sends)) → said ≡ text
      → IsSaid image plan me {C = C} it (given.ToAggregator i event) (nodes.Aggregator new) (Some said)
  said_by_round C (actors.Core j) old new it i event said text fits at me_is may told is = absurd fits
  said_by_round C (actors.Aggregator k) old new it i event said text fits at me_is may told is =
      let goes = round_goes_on i (rounds.rounds_of old) (rounds.rounds_of new) it event told.0 text at.1 told.1 told.2 in
      (subst (λ (held : ℕ → RoundState). of_round.MayTake held event) at.1 may, is ∙ goes.0, (me_is ∙ at.0, goes.1))

-- a process is started again
pub round_restarts : (C : Type 0) (plan : PlanState) (me : Actor) (old new : rounds.AggregatorState) (it : NodeState) → new.me ≡ old.me
    → ((t : ℕ) → rounds.rounds_of new t ≡ round_restarted (rounds.rounds_of old t)) → IsAt {C = C} plan me (nodes.Aggregator old) it → IsAt {C = C} plan me (nodes.Aggregator new) (restarted it)
round_restarts C plan (actors.Core j) old new it me_is are at = absurd at
round_restarts C plan (actors.Aggregator k) old new it me_is are at = (me_is ∙ at.0, λ i t. (are t ∙ ap (λ (held : ℕ → RoundState). round_restarted (held t)) at.1) i)
