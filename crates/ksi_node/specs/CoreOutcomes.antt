-- The outcome of a line to a core.
use Rattle.std.specs.Prelude.{◌≡◌, ◌⊎◌, ℕ, false, IsTrue, List, Option, Some, None, Result, Ok, Err}
use Rattle.ksi_schedule.specs.Pieces.{Text}
use Rattle.ksi_schedule.specs.Plans.{PlanState}
use Rattle.ksi_corenode.specs.declared.step.Step.{Step}
use Rattle.ksi_corenode.specs.declared.event.CoreEvent.{CoreEvent}
use Rattle.ksi_corenode.specs.Bare.{is_taken}
use Rattle.ksi_corenode.specs.CoreState.{IsTurn, state_of}
use Rattle.ksi_corenode.specs.Events.{core_row, event_second}
use Rattle.ksi_nodestore.specs.StoreState.{StoreState}
use Rattle.ksi_wire.specs.declared.fault.WireFault.{WireFault}
use Rattle.ksi_wire.specs.declared.fault.WireFault.TheVariants.{Forgotten, Long}
use Rattle.ksi_wire.specs.Chains.{chain_text}
use Rattle.ksi_wire.specs.Questions.{core_line_of}
use Rattle.ksi_wire.specs.Refused.{refusal_text}
use Rattle.ksi_wire.specs.Steps.{core_step_text}
use Rattle.ksi_wire.specs.Told.{held_text}
use Rattle.ksi_wire.specs.declared.questions.CoreLine.{CoreLine}
use Rattle.ksi_wire.specs.declared.questions.CoreLine.TheVariants as lines

-- the event or question of a line, or its fault
abbrev pub core_asked : PlanState → (me : ℕ) → Option Text → Result CoreLine WireFault
core_asked plan me None = Err Long
core_asked plan me (Some line) = core_line_of plan me line

-- the one step of an event is taken, and its text is written
pub record HasTaken {D : Type 0} (image : List ℕ → List ℕ) (me : ℕ) (event : CoreEvent) (before after : StoreState D) (said : Text) : Type 0 where
  pub taken : IsTrue (is_taken (state_of before.core) event)
  pub step : Step
  pub turn : IsTurn before.core after.core (event_second event) (core_row image before.core event) step
  pub text : said ≡ core_step_text me (event_second event) step

-- an event is taken, or refused because only the root of its second is left
abbrev pub EventOutcome : {D : Type 0} → (List ℕ → List ℕ) → (me : ℕ) → CoreEvent → (before after : StoreState D) → (said : Text) → Type 0
EventOutcome image me event before after said =
    HasTaken image me event before after said ⊎ ((is_taken (state_of before.core) event ≡ false) × (after ≡ before) × (said ≡ refusal_text Forgotten))

-- A question about roots or a chain, and a refused line: the answer is written, and nothing changes.
abbrev pub AskedOutcome : {D : Type 0} → (List ℕ → List ℕ) → (me : ℕ) → Result CoreLine WireFault → (before after : StoreState D) → (said : Text) → Type 0
AskedOutcome image me (Ok (lines.Event event)) before after said = EventOutcome image me event before after said
AskedOutcome image me (Ok (lines.Held span)) before after said = (after ≡ before) × (said ≡ held_text before.core span)
AskedOutcome image me (Ok (lines.Chain ends)) before after said = (after ≡ before) × (said ≡ chain_text image before.core ends)
AskedOutcome image me (Err fault) before after said = (after ≡ before) × (said ≡ refusal_text fault)

abbrev pub CoreOutcome : {D : Type 0} → (List ℕ → List ℕ) → PlanState → (me : ℕ) → Option Text → (before after : StoreState D) → (said : Text) → Type 0
CoreOutcome image plan me line before after said = AskedOutcome image me (core_asked plan me line) before after said
