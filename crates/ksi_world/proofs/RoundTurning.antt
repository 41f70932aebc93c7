-- One aggregator of many takes a turn.
use Rattle.std.proofs.Common.{◌≡◌, ℕ, ◌≤◌, cond, eqb, List, [], ◌∷◌, ◌++◌, length, refl, sym, ap, subst, ◌∙◌, arith, inl, inr, is_some, Option, Some, set, length-set}
use Rattle.std.specs.Prelude.{slice_get, map}
use Rattle.std.proofs.lemmas.Bool.{cond_both}
use Rattle.ksi_aggtree.specs.declared.item.Item.{Item}
use Rattle.ksi_aggtree.specs.declared.entries.Entry.{Entry}
use Rattle.ksi_aggtree.specs.Entries.{has_from, is_full}
use Rattle.ksi_aggregator.specs.declared.step.Step.{Step}
use Rattle.ksi_aggregator.specs.Rows.{RoundState, RoundTurn, round_request, round_submission, round_close, submission_of}
use Rattle.ksi_aggregator.specs.Rounds.{AggregatorState, rounds_of, SameRounds, IsTurn}
use Rattle.ksi_world.specs.declared.outcome.Outcome.{Outcome}
use Rattle.ksi_world.specs.declared.message.Message.{Message}
use Rattle.ksi_world.specs.declared.message.Content.{Content}
use Rattle.ksi_world.specs.declared.message.Content.TheVariants as contents
use Rattle.ksi_schedule.specs.Plans.{PlanState}
use Rattle.ksi_world.specs.Histories.{put_at, round_message, outcome_of}
use Rattle.ksi_world.specs.Nodes.{IsAggregator, AreAggregators, RoundStep, RoundMove, CanTake, response_row, AggregatorsStay}
use Rattle.ksi_world.proofs.Turning.{get_set, put_here, put_other}

pub round_turned : (row : RoundState → RoundTurn) (plan : PlanState) (k t : ℕ) (aggregators : List AggregatorState) (wire wire' : List Message) (old new : AggregatorState) (step : Step) (outcome : Outcome) →
    slice_get aggregators k ≡ Some old → new.me ≡ old.me → IsTurn (rounds_of old) (rounds_of new) t (row (rounds_of old t)) step →
    wire' ≡ wire ++ map (round_message plan k t) step.sends → outcome ≡ outcome_of step.answer (length step.sends) →
    RoundStep row plan k t aggregators (set aggregators k new) wire wire' outcome
round_turned row plan k t aggregators wire wire' old new step outcome at me is posted told = record {
  old = old;
  new = new;
  at = at;
  after = refl;
  me = me;
  rounds = is.after;
  posted = posted ∙ ap (λ sends. wire ++ map (round_message plan k t) sends) is.sends;
  told = told ∙ ap (λ answer. outcome_of answer (length step.sends)) is.answer ∙ ap (λ sends. outcome_of (row (rounds_of old t)).answer (length sends)) is.sends;
}

pub aggregators_stay : (aggregators : List AggregatorState) (k : ℕ) (old new : AggregatorState) → slice_get aggregators k ≡ Some old → new.me ≡ old.me → SameRounds (rounds_of old) (rounds_of new) → AggregatorsStay aggregators (set aggregators k new)
aggregators_stay aggregators k old new at me same plan rounds r = record {
  many = length-set aggregators k new ∙ r.many;
  each = λ i a here. elim (get_set aggregators k i new a here) [
    | inl is ↦ subst (λ a. IsAggregator (rounds i) i a) (sym is.1) (subst (λ i. IsAggregator (rounds i) i new) (sym is.0)
        (let was = r.each k old at in record { me = me ∙ was.me; keeps = λ t. same t ∙ was.keeps t }))
    | inr other ↦ r.each i a other.1
  ];
}

-- WHAT IS SENT

pub none_requested : (number : ℕ) (imprint : List ℕ) (name : Option (List ℕ)) (r : RoundState) → (round_request number imprint name r).sends ≡ []
unfolding round_request
none_requested number imprint name r = cond_both (is_some r.closed) _ _ (λ (turn : RoundTurn). turn.sends ≡ []) (λ _. refl)
    (λ _. cond_both (is_full r.open_items) _ _ (λ (turn : RoundTurn). turn.sends ≡ []) (λ _. refl) (λ _. refl))

pub none_submitted : (from : ℕ) (item : Item) (r : RoundState) → (round_submission from item r).sends ≡ []
unfolding round_submission
none_submitted from item r = cond_both (is_some r.closed) _ _ (λ (turn : RoundTurn). turn.sends ≡ []) (λ _. refl)
    (λ _. cond_both (has_from from r.open_items) _ _ (λ (turn : RoundTurn). turn.sends ≡ []) (λ _. refl)
    (λ _. cond_both (is_full r.open_items) _ _ (λ (turn : RoundTurn). turn.sends ≡ []) (λ _. refl) (λ _. refl)))

one_submission : (image : List ℕ → List ℕ) (entries : List Entry) → length (submission_of image entries) ≤ 1
one_submission image [] = omega arith
one_submission image (e ∷ es) = omega arith

pub one_closed : (image : List ℕ → List ℕ) (r : RoundState) → length (round_close image r).sends ≤ 1
unfolding round_close
one_closed image r = cond_both (is_some r.closed) _ _ (λ (turn : RoundTurn). length turn.sends ≤ 1) (λ _. omega arith) (λ _. one_submission image r.open_items)

-- THE AGGREGATORS AFTER IT

pub aggregators_turned : (plan : PlanState) (rounds : ℕ → ℕ → RoundState) (row : RoundState → RoundTurn) (k t : ℕ) (aggregators aggregators' : List AggregatorState) (wire wire' : List Message) (outcome : Outcome) →
    RoundStep row plan k t aggregators aggregators' wire wire' outcome → AreAggregators plan rounds aggregators → AreAggregators plan (put_at rounds k t (row (rounds k t)).after) aggregators'
aggregators_turned plan rounds row k t aggregators aggregators' wire wire' outcome step r = subst (λ xs. AreAggregators plan after xs) (sym step.after) (record {
  many = length-set aggregators k step.new ∙ r.many;
  each = λ i a here. elim (get_set aggregators k i step.new a here) [
    | inl is ↦ subst (λ a. IsAggregator (after i) i a) (sym is.1) (subst (λ i. IsAggregator (after i) i step.new) (sym is.0) new_one)
    | inr other ↦ let is = r.each i a other.1 in record { me = is.me; keeps = λ u. is.keeps u ∙ put_other rounds k t (row (rounds k t)).after i u other.0 }
  ];
})
  where
    after : ℕ → ℕ → RoundState
    after = put_at rounds k t (row (rounds k t)).after

    old_one : IsAggregator (rounds k) k step.old
    old_one = r.each k step.old step.at

    new_one : IsAggregator (after k) k step.new
    new_one = record {
      me = step.me ∙ old_one.me;
      keeps = λ u. step.rounds u ∙ ap (λ z. cond (eqb u t) (row z).after (rounds_of step.old u)) (old_one.keeps t) ∙ ap (λ z. cond (eqb u t) (row (rounds k t)).after z) (old_one.keeps u) ∙ put_here rounds k t (row (rounds k t)).after u;
    }

-- A RESPONSE

-- a step that was made, and what was posted of it
pub moved : (row : RoundState → RoundTurn) (plan : PlanState) (k t : ℕ) (aggregators aggregators' : List AggregatorState) (wire wire' : List Message) (step : Step) (outcome : Outcome) →
    RoundMove row k t aggregators aggregators' step → wire' ≡ wire ++ map (round_message plan k t) step.sends → outcome ≡ outcome_of step.answer (length step.sends) →
    RoundStep row plan k t aggregators aggregators' wire wire' outcome
moved row plan k t aggregators aggregators' wire wire' step outcome move posted told = subst (λ xs. RoundStep row plan k t aggregators xs wire wire' outcome) (sym move.after)
    (round_turned row plan k t aggregators wire wire' move.old move.new step outcome move.at move.me move.turn posted told)

-- what goes on is few
pub few_taken : (image : List ℕ → List ℕ) (plan : PlanState) (k t : ℕ) (aggregators aggregators' : List AggregatorState) (content : Content) (step : Step) →
    CanTake image plan k t aggregators content → RoundMove (response_row image content) k t aggregators aggregators' step → length step.sends ≤ length plan.parents
few_taken image plan k t aggregators aggregators' (contents.Response above) step can move = omega (arith, ap length move.turn.sends, (can move.old move.at).1)
few_taken image plan k t aggregators aggregators' (contents.Synod m) step can move = absurd can
few_taken image plan k t aggregators aggregators' (contents.Submission item) step can move = absurd can
