-- The laws of the crates below on aggregators, and what follows of one event by itself.
use Rattle.std.proofs.Common.{◌≡◌, ◌<◌, ◌^◌, ℕ, eqb, Bool, true, false, if◌then◌else◌, List, [], ◌∷◌, ◌++◌, map, option_map, refl, ap, Option, Some, None}
use Rattle.std.specs.Prelude.{◌≢◌}
use Rattle.std.proofs.lemmas.Bool.{eqb-true, eq-eqb, false_from_ne_true}
use Rattle.ksi_aggregator.specs.Events.{event_second, MayTake, round_row}
use Rattle.ksi_aggregator.specs.Rounds.{AggregatorState, IsTurn, fact_of, rounds_of}
use Rattle.ksi_aggregator.specs.Rows.{RoundState, round_restarted}
use Rattle.ksi_aggregator.specs.declared.event.RoundEvent.{RoundEvent}
use Rattle.ksi_aggregator.specs.declared.event.RoundEvent.TheVariants as happenings
use Rattle.ksi_aggregator.specs.declared.fact.Fact.{Fact}
use Rattle.ksi_aggregator.specs.declared.fact.RoundFact.{RoundFact}
use Rattle.ksi_aggregator.specs.declared.step.Step.{Step}
use Rattle.ksi_aggregator.specs.Lawful.{AreLawful, with_new}
use Rattle.ksi_aggregator.specs.Renamed.{IsOneToOne, event_renamed, fact_renamed, round_renamed, turn_renamed}
use Rattle.ksi_aggregator.specs.Restored.{HasFacts, IsOfFacts}
use Rattle.ksi_roundstore.specs.Stores.{IsFileOf}
use Rattle.ksi_schedule.specs.Plans.{PlanState, IsPlan}
use Rattle.ksi_schedule.specs.Events.{IsEvent, AreEvents}
use Rattle.ksi_schedule.specs.declared.event.Event.{Event}
use Rattle.ksi_schedule.specs.declared.event.Event.TheVariants.{RestartAggregator}
use Rattle.ksi_world.specs.Histories.{WorldState, after, first_world, happens, round_message, run}
use Rattle.ksi_world.specs.RoundEvents.{round_asked_of, is_restart_of_aggregator, round_turn}
use Rattle.ksi_laws_facts.specs.Seen.{seen}
use Rattle.ksi_laws_facts.specs.State.{world_seen}
use Rattle.ksi_laws_facts.specs.Steps.{IsStepByFacts}
use Rattle.ksi_laws_crashed.specs.RoundFacts.{fact_named, facts_named}
use Rattle.ksi_laws_crashed.proofs.Closing.{OneByOne}
use Rattle.ksi_laws_crashed.proofs.FactsMore.{RowsStore}
use Rattle.ksi_laws_crashed.proofs.Forgetful.{SettledStay}

-- the laws of the crates below
pub record Laws (image : List ℕ → List ℕ) (plan : PlanState) : Type 0 where
  pub plan_is : IsPlan plan
  pub seen_is : (events : List Event) → after image plan events ≡ world_seen image plan (seen image plan events)
  pub step : (before : List Event) (event : Event) → IsStepByFacts image plan before event
  pub stores : RowsStore image
  pub may : (before : List Event) → AreEvents plan before → (k : ℕ) (event : Event) (one : RoundEvent) → IsEvent plan event → round_asked_of k (after image plan before) event ≡ Some one
      → MayTake ((after image plan before).rounds k) one × (event_second one < 2 ^ 63)
  pub rounds : (w : WorldState) (k : ℕ) (event : Event) (one : RoundEvent) → round_asked_of k w event ≡ Some one
      → (t : ℕ) → (happens image plan w event).world.rounds k t ≡ (if eqb t (event_second one) then (round_turn image w k one).after else w.rounds k t)
  pub sends : (w : WorldState) (k : ℕ) (event : Event) (one : RoundEvent) → round_asked_of k w event ≡ Some one
      → (happens image plan w event).world.wire ≡ w.wire ++ map (round_message plan k (event_second one)) (round_turn image w k one).sends
  pub others : (w : WorldState) (k other : ℕ) (event : Event) (one : RoundEvent) → round_asked_of k w event ≡ Some one → other ≢ k → (round_asked_of other w event ≡ None) × (is_restart_of_aggregator other event ≡ false)
  pub still : (w : WorldState) (k : ℕ) (event : Event) → round_asked_of k w event ≡ None → is_restart_of_aggregator k event ≡ false → (t : ℕ) → (happens image plan w event).world.rounds k t ≡ w.rounds k t
  pub restarted : (w : WorldState) (k : ℕ) (event : Event) → is_restart_of_aggregator k event ≡ true → (t : ℕ) → (happens image plan w event).world.rounds k t ≡ round_restarted (w.rounds k t)
  pub one_file : (me : ℕ) (facts others : List Fact) (file : List ℕ) → IsFileOf me plan facts file → IsFileOf me plan others file → facts ≡ others
  pub grows : (facts : List Fact) (old new : ℕ → RoundState) (event : RoundEvent) (step : Step) → HasFacts facts old → MayTake old event → event_second event < 2 ^ 63
      → IsTurn old new (event_second event) (round_row image event (old (event_second event))) step → HasFacts (with_new facts step.fact) new
  pub made : (me : ℕ) (facts : List Fact) (a : AggregatorState) → AreLawful facts → IsOfFacts me facts a → HasFacts facts (rounds_of a)
  pub back : (me : ℕ) (facts : List Fact) (rounds : ℕ → RoundState) (other : AggregatorState) → HasFacts facts rounds → IsOfFacts me facts other → (t : ℕ) → rounds_of other t ≡ round_restarted (rounds t)
  pub row : (name : ℕ → ℕ) (event : RoundEvent) (r : RoundState) → round_row image (event_renamed name event) (round_renamed name r) ≡ turn_renamed name (round_row image event r)
  pub restart : (name : ℕ → ℕ) (r : RoundState) → round_restarted (round_renamed name r) ≡ round_renamed name (round_restarted r)
  pub settled : SettledStay image
  pub same_rounds : (facts : List Fact) (old new : ℕ → RoundState) → HasFacts facts old → ((t : ℕ) → new t ≡ old t) → HasFacts facts new
  pub restarts : (facts : List Fact) (old new : ℕ → RoundState) → HasFacts facts old → ((t : ℕ) → new t ≡ round_restarted (old t)) → HasFacts facts new
  pub none_lawful : AreLawful []
  pub may_named : (name : ℕ → ℕ) (rounds : ℕ → RoundState) (event : RoundEvent) → IsOneToOne name → MayTake rounds event → MayTake (λ t. round_renamed name (rounds t)) (event_renamed name event)
  pub one_by_one : OneByOne

run_more : (image : List ℕ → List ℕ) (plan : PlanState) (w : WorldState) (es : List Event) (e : Event) → run image plan w (es ++ e ∷ []) ≡ (happens image plan (run image plan w es) e).world
run_more image plan w [] e = refl
run_more image plan w (x ∷ es) e = run_more image plan (happens image plan w x).world es e

pub after_more : (image : List ℕ → List ℕ) (plan : PlanState) (es : List Event) (e : Event) → after image plan (es ++ e ∷ []) ≡ (happens image plan (after image plan es) e).world
unfolding after
after_more image plan es e = run_more image plan (first_world plan) es e

pub first_rounds : (image : List ℕ → List ℕ) (plan : PlanState) (k t : ℕ) (a : AggregatorState) → IsOfFacts k [] a → rounds_of a t ≡ round_renamed (λ x. x) ((after image plan []).rounds k t)
unfolding after first_world
first_rounds image plan k t a is = is.rounds t

pub itself : (k : ℕ) → is_restart_of_aggregator k (RestartAggregator k) ≡ true
itself k = eq-eqb k k refl

pub another : (k i : ℕ) → k ≢ i → is_restart_of_aggregator k (RestartAggregator i) ≡ false
another k i other = false_from_ne_true (eqb k i) (λ is. other (eqb-true k i is))

pub second_named : (name : ℕ → ℕ) (event : RoundEvent) → event_second (event_renamed name event) ≡ event_second event
second_named name (happenings.Request number second imprint called) = refl
second_named name (happenings.Submission from second item) = refl
second_named name (happenings.Close second) = refl
second_named name (happenings.Response second above) = refl

pub named_where : (name : ℕ → ℕ) (b : Bool) (one other : RoundState) → (if b then round_renamed name one else round_renamed name other) ≡ round_renamed name (if b then one else other)
named_where name true one other = refl
named_where name false one other = refl

one_more_named : (name : ℕ → ℕ) (facts : List Fact) (fact : Fact) → facts_named name facts ++ fact_named name fact ∷ [] ≡ facts_named name (facts ++ fact ∷ [])
one_more_named name [] fact = refl
one_more_named name (f ∷ fs) fact = ap (λ (rest : List Fact). fact_named name f ∷ rest) (one_more_named name fs fact)

pub new_named : (name : ℕ → ℕ) (t : ℕ) (facts : List Fact) (what : Option RoundFact) → with_new (facts_named name facts) (option_map (fact_of t) (option_map (fact_renamed name) what)) ≡ facts_named name (with_new facts (option_map (fact_of t) what))
new_named name t facts None = refl
new_named name t facts (Some what) = one_more_named name facts (fact_of t what)
