-- The outcome of a line to an aggregator.
use Rattle.std.specs.Prelude.{◌≡◌, ◌⊎◌, ℕ, List, [], ◌∷◌, codes, Option, Some, None, Result, Ok, Err, is_some}
use Rattle.hex.specs.Hex.{encode_lower}
use Rattle.ksi_schedule.specs.Pieces.{Text}
use Rattle.ksi_schedule.specs.Plans.{PlanState}
use Rattle.ksi_schedule.specs.Printed.{text_of_lines}
use Rattle.ksi_aggregator.specs.declared.event.RoundEvent.{RoundEvent}
use Rattle.ksi_aggregator.specs.declared.event.RoundEvent.TheVariants as events
use Rattle.ksi_aggregator.specs.declared.step.Step.{Step}
use Rattle.ksi_aggregator.specs.Events.{event_second, MayTake}
use Rattle.ksi_aggregator.specs.Issuing.{IsIssued, NotIssued}
use Rattle.ksi_aggregator.specs.Rows.{RoundState}
use Rattle.ksi_aggregator.specs.Rounds.{rounds_of, IsNew}
use Rattle.ksi_roundstore.specs.StoreState.{StoreState}
use Rattle.ksi_roundstore.specs.Takes.{TookTurn}
use Rattle.ksi_roundstore.specs.Written.{IsWritten}
use Rattle.ksi_wire.specs.declared.event.AggregatorLine.{AggregatorLine}
use Rattle.ksi_wire.specs.declared.event.AggregatorLine.TheVariants as lines
use Rattle.ksi_wire.specs.declared.fault.WireFault.{WireFault}
use Rattle.ksi_wire.specs.declared.fault.WireFault.TheVariants.{Long, Taken}
use Rattle.ksi_wire.specs.AskedRounds.{aggregator_line_of}
use Rattle.ksi_wire.specs.Steps.{round_step_text}
use Rattle.ksi_wire.specs.Refused.{refusal_text}

-- the event or question of a line, or its fault
abbrev pub round_asked : PlanState → (me : ℕ) → Option Text → Result AggregatorLine WireFault
round_asked plan me None = Err Long
round_asked plan me (Some line) = aggregator_line_of plan me line

-- the text of the step of an event
abbrev pub round_said : PlanState → (me : ℕ) → RoundEvent → Step → Text
round_said plan me event step = round_step_text plan me (event_second event) step.answer (is_some step.fact) step.sends

-- the one step of an event that may be taken is taken, and its text is written
pub record HasTaken {D : Type 0} (image : List ℕ → List ℕ) (plan : PlanState) (me : ℕ) (event : RoundEvent) (before after : StoreState D) (said : Text) : Type 0 where
  pub step : Step
  pub due : MayTake (rounds_of before.aggregator) event
  pub turn : TookTurn image before.aggregator after.aggregator event step
  pub text : said ≡ round_said plan me event step

-- the request's number is used by another request
abbrev pub IsTaken : (rounds : ℕ → RoundState) → RoundEvent → Type 0
IsTaken rounds (events.Request number second imprint name) = IsNew number rounds → ⊥
IsTaken rounds (events.Submission from second item) = ⊥
IsTaken rounds (events.Close second) = ⊥
IsTaken rounds (events.Response second above) = ⊥

-- an event is taken, or refused because its number is used
abbrev pub EventOutcome : {D : Type 0} → (List ℕ → List ℕ) → PlanState → (me : ℕ) → RoundEvent → (before after : StoreState D) → (said : Text) → Type 0
EventOutcome image plan me event before after said =
    HasTaken image plan me event before after said ⊎ (IsTaken (rounds_of before.aggregator) event × (after ≡ before) × (said ≡ refusal_text Taken))

-- the signature of a request in hex, or the answer that none is issued
abbrev pub signature_text : List ℕ → Text
signature_text bytes = text_of_lines ((codes "signature" ∷ encode_lower bytes ∷ []) ∷ (codes "." ∷ []) ∷ [])

abbrev pub not_issued_text : Text
not_issued_text = text_of_lines ((codes "not" ∷ codes "issued" ∷ []) ∷ (codes "." ∷ []) ∷ [])

abbrev pub SignTold : (List ℕ → List ℕ) → (rounds : ℕ → RoundState) → (number : ℕ) → (said : Text) → Type 0
SignTold image rounds number said =
    ((bytes : List ℕ) × IsIssued image rounds number bytes × (said ≡ signature_text bytes)) ⊎ (NotIssued rounds number × (said ≡ not_issued_text))

-- A question and a refused line change nothing.
abbrev pub AskedRound : {D : Type 0} → (List ℕ → List ℕ) → PlanState → (me : ℕ) → Result AggregatorLine WireFault → (before after : StoreState D) → (said : Text) → Type 0
AskedRound image plan me (Ok (lines.Event event)) before after said = EventOutcome image plan me event before after said
AskedRound image plan me (Ok (lines.Sign number)) before after said = (after ≡ before) × SignTold image (rounds_of before.aggregator) number said
AskedRound image plan me (Err fault) before after said = (after ≡ before) × (said ≡ refusal_text fault)

abbrev pub RoundOutcome : {D : Type 0} → (List ℕ → List ℕ) → PlanState → (me : ℕ) → Option Text → (before after : StoreState D) → (said : Text) → Type 0
RoundOutcome image plan me line before after said = AskedRound image plan me (round_asked plan me line) before after said

-- ---- in the code

-- the line of an event is the line that the event is written as
abbrev pub AsksWritten : PlanState → (me : ℕ) → AggregatorLine → Type 0
AsksWritten plan me (lines.Event event) = IsWritten plan me event
AsksWritten plan me (lines.Sign number) = Unit {0}
