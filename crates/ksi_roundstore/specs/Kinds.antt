-- ---- in the code: the kind of a record, by its last line
use Rattle.std.specs.Prelude.{◌≡◌, ◌⊎◌, ◌<◌, ◌^◌, ◌≤◌, ◌==◌, ℕ, Bool, false, if◌then◌else◌, List, [], ◌∷◌, ◌++◌, length, take, All}
use Rattle.ksi_schedule.specs.Plans.{PlanState}
use Rattle.ksi_aggregator.specs.declared.event.RoundEvent.{RoundEvent}
use Rattle.ksi_aggregator.specs.declared.event.RoundEvent.TheVariants as events
use Rattle.ksi_aggregator.specs.declared.fact.RoundFact.{RoundFact}
use Rattle.ksi_aggregator.specs.declared.fact.RoundFact.TheVariants as what
use Rattle.ksi_aggregator.specs.declared.fact.Fact.{Fact}
use Rattle.ksi_wire.specs.declared.event.AggregatorLine.{AggregatorLine}
use Rattle.ksi_wire.specs.declared.event.AggregatorLine.TheVariants as lines
use Rattle.ksi_disk.specs.Gates.{records_text}
use Rattle.ksi_roundstore.specs.Written.{AreTexts, IsTextOf}
use Rattle.ksi_roundstore.specs.declared.kind.Kind.{Kind}
use Rattle.ksi_roundstore.specs.declared.kind.Kind.TheVariants as kinds
use Rattle.ksi_roundstore.specs.declared.stays.Stays.{Stays}
use Rattle.ksi_roundstore.specs.declared.stays.Stays.TheVariants as stay
use Rattle.ksi_roundstore.specs.Left.{left_of, left_of_one}

abbrev pub kind_of_event : RoundEvent → Kind
kind_of_event (events.Request number second imprint name) = kinds.Other
kind_of_event (events.Submission from second item) = kinds.Other
kind_of_event (events.Close second) = kinds.Closed second
kind_of_event (events.Response second above) = kinds.Answered second

abbrev pub kind_of_line : AggregatorLine → Kind
kind_of_line (lines.Event event) = kind_of_event event
kind_of_line (lines.Sign number) = kinds.Other

abbrev pub kind_of_what : (second : ℕ) → RoundFact → Kind
kind_of_what second (what.Closed items) = kinds.Closed second
kind_of_what second (what.Answered above) = kinds.Answered second

abbrev pub kind_of : Fact → Kind
kind_of fact = kind_of_what fact.second fact.what

-- it is the response of a second
abbrev pub answers : Kind → ℕ → Bool
answers (kinds.Closed second) t = false
answers (kinds.Answered second) t = t == second
answers kinds.Other t = false

-- the text before is empty, or consists of lines with line feeds
abbrev pub IsEnded : List ℕ → Type 0
IsEnded front = (front ≡ []) ⊎ ((rest : List ℕ) × (front ≡ rest ++ 10 ∷ []))

-- records were appended to a text: those of the facts left of the fact in a content
pub record IsPutOf (plan : PlanState) (me : ℕ) (forgotten : ℕ → Bool) (content old new : List ℕ) (count : ℕ) : Type 0 where
  pub left : List (List ℕ)
  pub text_is : new ≡ old ++ records_text left
  pub texts : (fact : Fact) → IsTextOf plan me fact content → AreTexts plan me (left_of_one forgotten fact) left
  pub small : All (λ one. length one < 2 ^ 32) left
  pub counted : count ≡ length left
  pub few : count ≤ 1

-- the part of a record that is kept, by its kind: of a forgotten round the last line of its closing, and nothing of its response
abbrev pub stays : (forgotten : ℕ → Bool) → Kind → Stays
stays forgotten (kinds.Closed second) = if forgotten second then stay.LastLine else stay.Whole
stays forgotten (kinds.Answered second) = if forgotten second then stay.Nothing else stay.Whole
stays forgotten kinds.Other = stay.Whole

-- records were appended to a text: those of the facts left of the facts in the first of these records
pub record IsPutAll (plan : PlanState) (me : ℕ) (forgotten : ℕ → Bool) (records : List (List ℕ)) (k : ℕ) (old new : List ℕ) (count : ℕ) : Type 0 where
  pub left : List (List ℕ)
  pub text_is : new ≡ old ++ records_text left
  pub texts : (facts : List Fact) → AreTexts plan me facts records → AreTexts plan me (left_of forgotten (take k facts)) left
  pub small : All (λ one. length one < 2 ^ 32) left
  pub counted : count ≡ length left
  pub few : count ≤ k

-- the records kept of one
abbrev pub records_stay : Stays → (content last : List ℕ) → List (List ℕ)
records_stay stay.Whole content last = content ∷ []
records_stay stay.LastLine content last = last ∷ []
records_stay stay.Nothing content last = []

-- these records, at most one, were appended to a text
pub record IsPut (left : List (List ℕ)) (old new : List ℕ) (count : ℕ) : Type 0 where
  pub text_is : new ≡ old ++ records_text left
  pub small : All (λ one. length one < 2 ^ 32) left
  pub counted : count ≡ length left
  pub few : count ≤ 1
