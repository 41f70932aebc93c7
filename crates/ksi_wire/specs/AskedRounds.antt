-- What a line asks of an aggregator.
use Rattle.std.specs.Prelude.{ℕ, List, codes, Result, Ok, Err, if◌then◌else◌}
use Rattle.std.specs.Str.{bytes_eq}
use Rattle.ksi_schedule.specs.Pieces.{Text, words}
use Rattle.ksi_schedule.specs.Plans.{PlanState}
use Rattle.ksi_aggregator.specs.declared.event.RoundEvent.TheVariants as events
use Rattle.ksi_signature.specs.declared.above.Above.{Above}
use Rattle.ksi_wire.specs.declared.fault.WireFault.{WireFault}
use Rattle.ksi_wire.specs.declared.event.AggregatorLine.{AggregatorLine}
use Rattle.ksi_wire.specs.declared.event.AggregatorLine.TheVariants as lines
use Rattle.ksi_wire.specs.RoundLines.{asked_words, short}
use Rattle.ksi_wire.specs.Asked.{Got, ◌>>=◌, word_in, number_in, second_in, short_in, if_spelled}
use Rattle.ksi_wire.specs.AskedAbove.{above_said}

abbrev pub sign_in : List Text → Got AggregatorLine
sign_in ws = number_in ws >>= λ number rest. Ok (lines.Sign number, rest)

abbrev pub event_in : PlanState → (me : ℕ) → (kind : Text) → List Text → Got AggregatorLine
event_in plan me kind ws = short_in plan me kind ws >>= λ event rest. Ok (lines.Event (short event), rest)

abbrev pub or_fault : Result Above WireFault → List Text → Got Above
or_fault (Ok above) rest = Ok (above, rest)
or_fault (Err fault) rest = Err fault

-- a second, and the path above its round that a word encodes
abbrev pub response_of : (second : ℕ) → (word : Text) → List Text → Got AggregatorLine
response_of second word rest = or_fault (above_said word) rest >>= λ above rest. Ok (lines.Event (events.Response second above), rest)

abbrev pub response_in : PlanState → List Text → Got AggregatorLine
response_in plan ws = second_in plan ws >>= λ second ws. word_in ws >>= λ word rest. response_of second word rest

abbrev pub asked_in : PlanState → (me : ℕ) → List Text → Got AggregatorLine
asked_in plan me ws =
    word_in ws >>= λ kind ws.
    if bytes_eq kind (codes "sign") then sign_in ws
    else if bytes_eq kind (codes "response") then response_in plan ws
    else event_in plan me kind ws

-- what a line asks of an aggregator of the plan, or why it asks nothing
unfoldable pub aggregator_line_of : PlanState → (me : ℕ) → (line : Text) → Result AggregatorLine WireFault
aggregator_line_of plan me line = if_spelled asked_words line (asked_in plan me (words line))
