-- The aggregator restored from the records of a file, one after the other.
use Rattle.std.specs.Prelude.{ℕ, List, [], ◌∷◌, ◌++◌, true, false, Bool, Result, Ok, Err, ◌≡◌, ◌+◌, length}
use Rattle.ksi_schedule.specs.Plans.{PlanState}
use Rattle.ksi_aggregator.specs.declared.fact.Fact.{Fact}
use Rattle.ksi_aggregator.specs.Rounds.{AggregatorState}
use Rattle.ksi_aggregator.specs.Lawful.{AreLawful, IsLawful, stored_by}
use Rattle.ksi_aggregator.specs.Restored.{IsOfFacts}
use Rattle.ksi_disk.specs.Gates.{records_text}
use Rattle.ksi_roundstore.specs.declared.refusal.OpenRefusal.{OpenRefusal}
use Rattle.ksi_roundstore.specs.declared.refusal.OpenRefusal.TheVariants.{Failed, NotFormatted, Foreign, Malformed, NoMemory}
use Rattle.ksi_roundstore.specs.Written.{AreTexts, IsTextOf}

-- the records encode these facts, each of which is valid after those before it
pub record AreFactsOf (plan : PlanState) (me : ℕ) (facts : List Fact) (records : List (List ℕ)) : Type 0 where
  pub texts : AreTexts plan me facts records
  pub lawful : AreLawful facts

-- the content does not encode a fact that is valid after these
abbrev pub HasNoFact : PlanState → (me : ℕ) → List Fact → List ℕ → Type 0
HasNoFact plan me facts content = (fact : Fact) → IsTextOf plan me fact content → IsLawful (stored_by facts) fact → ⊥

-- the record at this place does not encode a fact that is valid after those of the records before it
pub record IsFault (plan : PlanState) (me : ℕ) (records : List (List ℕ)) (place : ℕ) : Type 0 where
  pub facts : List Fact
  pub before : List (List ℕ)
  pub content : List ℕ
  pub others : List (List ℕ)
  pub are : AreFactsOf plan me facts before
  pub split : records ≡ before ++ content ∷ others
  pub here : place ≡ 20 + length (records_text before)
  pub none : HasNoFact plan me facts content

-- an aggregator of facts takes a record: it is the aggregator with that fact too, or the record encodes no valid fact
abbrev pub GoesOn : PlanState → (me : ℕ) → List Fact → List ℕ → AggregatorState → Bool → Type 0
GoesOn plan me facts content aggregator true =
    (fact : Fact) × IsTextOf plan me fact content × AreLawful (facts ++ fact ∷ []) × IsOfFacts me (facts ++ fact ∷ []) aggregator
GoesOn plan me facts content aggregator false = HasNoFact plan me facts content

-- the aggregator of the facts that the records encode
abbrev pub IsAggregatorOf : PlanState → (me : ℕ) → List (List ℕ) → AggregatorState → Type 0
IsAggregatorOf plan me records aggregator = (facts : List Fact) × AreFactsOf plan me facts records × IsOfFacts me facts aggregator

abbrev pub FoldsAs : PlanState → (me : ℕ) → List (List ℕ) → Result AggregatorState OpenRefusal → Type 0
FoldsAs plan me records (Ok aggregator) = IsAggregatorOf plan me records aggregator
FoldsAs plan me records (Err Failed) = ⊥
FoldsAs plan me records (Err NotFormatted) = ⊥
FoldsAs plan me records (Err (Foreign aggregator start)) = ⊥
FoldsAs plan me records (Err (Malformed place)) = IsFault plan me records place
FoldsAs plan me records (Err NoMemory) = Unit {0}
