-- Which records are no lawful fact's.
use Rattle.std.proofs.Common.{◌≡◌, ◌∙◌, ℕ, List, false, sym, subst}
use Rattle.std.specs.List.{AllByRecursion}
use Rattle.ksi_schedule.specs.Plans.{PlanState}
use Rattle.ksi_aggregator.specs.declared.event.RoundEvent.{RoundEvent}
use Rattle.ksi_aggregator.specs.declared.fact.Fact.{Fact}
use Rattle.ksi_aggregator.specs.Rounds.{AggregatorState, rounds_of}
use Rattle.ksi_aggregator.specs.Rows.{RoundState}
use Rattle.ksi_aggregator.specs.Lawful.{stored_by}
use Rattle.ksi_aggregator.specs.Restored.{IsOfFacts}
use Rattle.ksi_roundstore.specs.Facts.{AreAccepted, IsMade}
use Rattle.ksi_roundstore.specs.Folds.{HasNoFact}
use Rattle.ksi_roundstore.specs.Texts.{lines_of}
use Rattle.ksi_roundstore.specs.Written.{AreLinesIn, IsTextOf, IsWritten, fact_events}
use Rattle.ksi_roundstore.proofs.Accepted.{lawful_accepted, made_of_fact}
use Rattle.ksi_roundstore.proofs.Spelled.{events_once, text_is_lines}

-- a text that is no lines of events is no fact's
pub not_read : (plan : PlanState) (me other : ℕ) (facts : List Fact) (content : List ℕ) → other ≡ me → (AreLinesIn plan other content → ⊥) → HasNoFact plan me facts content
not_read plan me other facts content same none = λ fact is may.
    subst (λ (n : ℕ). AreLinesIn plan n content → ⊥) same none (record { list = fact_events fact; text_is = is.text ∙ text_is_lines fact.second fact.what; written = is.written })

module _ (image : List ℕ → List ℕ) (plan : PlanState) (me : ℕ) (facts : List Fact) (content : List ℕ) where
  same_events : (list : List RoundEvent) → content ≡ lines_of list → AllByRecursion (IsWritten plan me) list → (fact : Fact) → IsTextOf plan me fact content → list ≡ fact_events fact
  same_events list text written fact is = events_once plan me list (fact_events fact) written is.written (sym text ∙ is.text ∙ text_is_lines fact.second fact.what)

  pub not_made : (list : List RoundEvent) → content ≡ lines_of list → AllByRecursion (IsWritten plan me) list → IsMade list false → HasNoFact plan me facts content
  not_made list text written made = λ fact is may. made_of_fact fact list (same_events list text written fact is) made

  pub not_accepted : (old : AggregatorState) (list : List RoundEvent) → content ≡ lines_of list → AllByRecursion (IsWritten plan me) list → IsOfFacts me facts old → (AreAccepted image (rounds_of old) list → ⊥) → HasNoFact plan me facts content
  not_accepted old list text written of none = λ fact is may.
      none (subst (λ (rounds : ℕ → RoundState). AreAccepted image rounds list) (λ i t. sym (of.rounds t) i)
      (subst (λ (l : List RoundEvent). AreAccepted image (λ t. Rattle.ksi_aggregator.specs.Restored.restored (stored_by facts t)) l) (sym (same_events list text written fact is)) (lawful_accepted image (stored_by facts) fact may)))
