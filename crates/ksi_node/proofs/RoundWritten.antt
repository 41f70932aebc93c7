-- An event that a line asks for is written by it.
use Rattle.std.proofs.Common.{◌≡◌, ℕ, Ok}
use Rattle.ksi_aggregator.specs.declared.event.RoundEvent.{RoundEvent}
use Rattle.ksi_schedule.specs.Pieces.{Text}
use Rattle.ksi_schedule.specs.Plans.{PlanState}
use Rattle.ksi_schedule.specs.Printed.{line_of}
use Rattle.ksi_wire.specs.declared.event.AggregatorLine.{AggregatorLine}
use Rattle.ksi_wire.specs.declared.event.AggregatorLine.TheVariants as lines
use Rattle.ksi_wire.specs.AskedRounds.{aggregator_line_of}
use Rattle.ksi_wire.specs.RoundLines.{FitsRound, MayBeTaken, asked_words, round_words}
use Rattle.ksi_roundstore.specs.Written.{IsWritten}
use Rattle.ksi_node.specs.Inlet.{NoFeed}
use Rattle.ksi_node.specs.RoundOutcomes.{AsksWritten}

-- what is said of lines
abbrev pub LinesAreWritten : Type 0
LinesAreWritten = (plan : PlanState) (me : ℕ) (line : Text) (event : RoundEvent) → aggregator_line_of plan me line ≡ Ok (lines.Event event) → line ≡ line_of (round_words event) → FitsRound event → NoFeed line → IsWritten plan me event

pub asks_written : LinesAreWritten → (plan : PlanState) (me : ℕ) (line : Text) (asked : AggregatorLine) → aggregator_line_of plan me line ≡ Ok asked → line ≡ line_of (asked_words asked) → MayBeTaken asked → NoFeed line → AsksWritten plan me asked
asks_written law plan me line (lines.Event event) read text may free = law plan me line event read text may free
asks_written law plan me line (lines.Sign number) read text may free = tt
