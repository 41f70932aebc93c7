-- An aggregator is a node in general.
use Rattle.std.proofs.Common.{◌≡◌, ◌<◌, ◌^◌, ℕ, eqb, if◌then◌else◌, List, refl, sym, ap, subst, ◌∙◌, option_map, Option, Some, None}
use Rattle.ksi_aggregator.specs.declared.event.RoundEvent.{RoundEvent}
use Rattle.ksi_aggregator.specs.declared.fact.Fact.{Fact}
use Rattle.ksi_aggregator.specs.declared.step.Step.{Step}
use Rattle.ksi_aggregator.specs.Events.{event_second, MayTake, round_row}
use Rattle.ksi_aggregator.specs.Rounds.{AggregatorState, IsTurn, fact_of, rounds_of}
use Rattle.ksi_aggregator.specs.Rows.{RoundState, round_restarted}
use Rattle.ksi_disk.specs.Restarts.{and_new}
use Rattle.ksi_aggregator.specs.Lawful.{with_new}
use Rattle.ksi_aggregator.specs.Restored.{HasFacts, IsOfFacts}
use Rattle.ksi_roundstore.specs.Takes.{fact_added}
use Rattle.ksi_laws_crashed.specs.AsNode.{Rounds, rounds_after, rounds_restarted, HasRounds, MayCome, IsAggregatorNode}

and_new_is : (facts : List Fact) (more : Option Fact) → with_new facts more ≡ and_new facts more
and_new_is facts None = refl
and_new_is facts (Some fact) = refl

module _ (image : List ℕ → List ℕ) (me : ℕ)
    (grows : (facts : List Fact) (old new : Rounds) (event : RoundEvent) (step : Step) → HasFacts facts old → MayTake old event → event_second event < 2 ^ 63
    → IsTurn old new (event_second event) (round_row image event (old (event_second event))) step → HasFacts (with_new facts step.fact) new)
    (stays : (facts : List Fact) (old new : Rounds) → HasFacts facts old → ((t : ℕ) → new t ≡ round_restarted (old t)) → HasFacts facts new)
    (back : (facts : List Fact) (rounds : Rounds) (other : AggregatorState) → HasFacts facts rounds → IsOfFacts me facts other → (t : ℕ) → rounds_of other t ≡ round_restarted (rounds t)) where
  goes_on : (facts : List Fact) (a : AggregatorState) (s : Rounds) (event : RoundEvent) → HasRounds a s → HasFacts facts s → MayCome a event → HasFacts (and_new facts (fact_added image a event)) (rounds_after image s event)
  goes_on facts a s event keeps has may =
      let turn = round_row image event (s (event_second event)) in
      let step : Step = record { answer = turn.answer; fact = option_map (fact_of (event_second event)) turn.fact; sends = turn.sends } in
      let grown : HasFacts (with_new facts step.fact) (rounds_after image s event) =
      grows facts s (rounds_after image s event) event step has (subst (λ (rounds : Rounds). MayTake rounds event) (λ i t. keeps t i) may.0) may.1 (record { after = λ t. refl; answer = refl; fact = refl; sends = refl }) in
      subst (λ (fs : List Fact). HasFacts fs (rounds_after image s event))
      (ap (λ (r : RoundState). with_new facts (option_map (fact_of (event_second event)) (round_row image event r).fact)) (sym (keeps (event_second event))) ∙ and_new_is facts (fact_added image a event)) grown

  pub is_node : IsAggregatorNode image me
  is_node = record {
    takes = λ old new s event keeps may took t. took t ∙ (λ i. if eqb t (event_second event) then (round_row image event (keeps (event_second event) i)).after else keeps t i);
    goes_on = goes_on;
    stays = λ facts s has. stays facts s (rounds_restarted s) has (λ t. refl);
    comes_back = λ facts a s has made t. back facts s a has made t;
  }
