-- An aggregator that stores the facts of its steps stores lawful ones for good, and comes back with them as after a restart.
use Rattle.std.proofs.Common.{◌≡◌, ◌∙◌, ℕ, ◌<◌, ◌^◌, List, [], Option, Some, None, refl, sym, ap, subst}
use Rattle.std.specs.Prelude.{◌==◌, if◌then◌else◌, is_some, slice_get, option_map, IfSome}
use Rattle.std.proofs.lemmas.Bool.{cond_both}
use Rattle.std.proofs.lemmas.Option.{none-some}
use Rattle.ksi_aggtree.specs.declared.entries.Entry.{Entry}
use Rattle.ksi_signature.specs.declared.above.Above.{Above}
use Rattle.ksi_aggregator.specs.declared.event.RoundEvent.{RoundEvent}
use Rattle.ksi_aggregator.specs.declared.fact.RoundFact.{RoundFact}
use Rattle.ksi_aggregator.specs.declared.fact.Fact.{Fact}
use Rattle.ksi_aggregator.specs.declared.step.Step.{Step}
use Rattle.ksi_aggregator.specs.Events.{event_second, MayTake, round_row}
use Rattle.ksi_aggregator.specs.Facts.{StableRound, stable_round, with_fact}
use Rattle.ksi_aggregator.specs.Rows.{RoundState, RoundTurn, fresh_round, round_restarted}
use Rattle.ksi_aggregator.specs.Rounds.{AggregatorState, rounds_of, items_in, fact_of, SameRounds, IsTurn}
use Rattle.ksi_aggregator.proofs.Storing.{turn_stores, restart_leaves}
use Rattle.ksi_aggregator.specs.Lawful.{stored_by, with_new, IsLawful, AreLawful, closed_items}
use Rattle.ksi_aggregator.specs.Restored.{restored, IsOfFacts, IsWell, HasFacts}
use Rattle.ksi_aggregator.proofs.StoredLaws.{event_well, event_apart, event_stores, fact_lawful, apart_within, apart_same}
use Rattle.ksi_aggregator.proofs.Returning.{some_more, more_lawful, stable_is, good_of}

pub facts_last : (image : List ℕ → List ℕ) (facts : List Fact) (old new : ℕ → RoundState) (event : RoundEvent) (step : Step) → HasFacts facts old → MayTake old event → event_second event < 2 ^ 63 →
    IsTurn old new (event_second event) (round_row image event (old (event_second event))) step → HasFacts (with_new facts step.fact) new
facts_last image facts old new event step has may early is = record {
  lawful = subst (λ (o : Option Fact). AreLawful (with_new facts o)) (sym is.fact) (lawful turn.fact (fact_lawful image old event may early (has.well second) has.apart));
  stored = λ t. turn_stores old new second turn step is (event_stores image old event) t
      ∙ ap (λ (s : StableRound). with_fact step.fact t s) (has.stored t) ∙ sym (some_more facts step.fact t);
  well = λ t. subst IsWell (sym (is.after t))
      (cond_both (t == second) turn.after (old t) IsWell (λ _. event_well image old event may (has.well second)) (λ _. has.well t));
  apart = event_apart image old new event may is.after has.apart;
}
  where
    second : ℕ
    second = event_second event

    turn : RoundTurn
    turn = round_row image event (old second)

    lawful : (o : Option RoundFact) → IfSome o (λ what. IsLawful (λ t. stable_round (old t)) (fact_of (event_second event) what)) →
        AreLawful (with_new facts (option_map (fact_of (event_second event)) o))
    lawful None _ = has.lawful
    lawful (Some what) so =
        let same : (λ (t : ℕ). stable_round (old t)) ≡ stored_by facts = (λ i t. has.stored t i) in
        more_lawful facts (fact_of (event_second event) what) has.lawful (subst (λ (stored : ℕ → StableRound). IsLawful stored (fact_of (event_second event) what)) same so)

pub has_facts_same : (facts : List Fact) (old new : ℕ → RoundState) → HasFacts facts old → SameRounds old new → HasFacts facts new
has_facts_same facts old new has same = record {
  lawful = has.lawful;
  stored = λ t. ap stable_round (same t) ∙ has.stored t;
  well = λ t. subst IsWell (sym (same t)) (has.well t);
  apart = apart_same old new (λ t. ap items_in (same t)) has.apart;
}

-- COMING BACK

fresh_well : IsWell fresh_round
fresh_well = record { added = tt; emptied = λ entries is. refl; last = λ is. refl }

restart_well : (r : RoundState) → IsWell r → IsWell (round_restarted r)
restart_well r well = cond_both (is_some r.closed) r fresh_round IsWell (λ _. well) (λ _. fresh_well)

restart_items : (r : RoundState) (k : ℕ) (e : Entry) → slice_get (items_in (round_restarted r)) k ≡ Some e → slice_get (items_in r) k ≡ Some e
restart_items r k e = cond_both (is_some r.closed) r fresh_round (λ (x : RoundState). slice_get (items_in x) k ≡ Some e → slice_get (items_in r) k ≡ Some e) (λ _ at. at) (λ _ at. absurd (none-some e at))

pub has_facts_restarted : (facts : List Fact) (old new : ℕ → RoundState) → HasFacts facts old → ((t : ℕ) → new t ≡ round_restarted (old t)) → HasFacts facts new
has_facts_restarted facts old new has are = record {
  lawful = has.lawful;
  stored = λ t. ap stable_round (are t) ∙ restart_leaves (old t) (has.well t).last ∙ has.stored t;
  well = λ t. subst IsWell (sym (are t)) (restart_well (old t) (has.well t));
  apart = apart_within (λ t. items_in (old t)) (λ t. items_in (new t)) (λ t k e at. restart_items (old t) k e (subst (λ (r : RoundState). slice_get (items_in r) k ≡ Some e) (are t) at)) has.apart;
}

pub has_facts : (me : ℕ) (facts : List Fact) (a : AggregatorState) → AreLawful facts → IsOfFacts me facts a → HasFacts facts (rounds_of a)
has_facts me facts a lawful are = record {
  lawful = lawful;
  stored = stable_is me facts a are;
  well = λ t. subst IsWell (sym (are.rounds t)) (record { added = tt; emptied = λ entries is. refl; last = (good_of facts lawful).last t });
  apart = apart_within (λ t. closed_items (stored_by facts t)) (λ t. items_in (rounds_of a t))
      (λ t k e at. subst (λ (r : RoundState). slice_get (items_in r) k ≡ Some e) (are.rounds t) at) (good_of facts lawful).apart;
}

restored_is : (r : RoundState) → IsWell r → restored (stable_round r) ≡ round_restarted r
restored_is r well = by r.closed r.answered (well.emptied) well.last
  where
    by : (closed : Option (List Entry)) (answered : Option Above) → ((entries : List Entry) → closed ≡ Some entries → r.open_items ≡ []) → (closed ≡ None → answered ≡ None) →
        restored (record { closed = closed; answered = answered }) ≡ (if is_some closed then (record r { closed = closed; answered = answered }) else fresh_round)
    by (Some entries) answered emptied last = ap (λ (items : List Entry). record { open_items = items; closed = Some entries; answered = answered }) (sym (emptied entries refl))
    by None answered emptied last = ap (λ (o : Option Above). record { open_items = []; closed = None; answered = o }) (last refl)

pub comes_back : (me : ℕ) (facts : List Fact) (rounds : ℕ → RoundState) (other : AggregatorState) → HasFacts facts rounds → IsOfFacts me facts other → (t : ℕ) → rounds_of other t ≡ round_restarted (rounds t)
comes_back me facts rounds other has are t = are.rounds t ∙ ap restored (sym (has.stored t)) ∙ restored_is (rounds t) (has.well t)
