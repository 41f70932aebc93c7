-- A question to a core, which changes nothing.
use Rattle.std.specs.Prelude.{◌≡◌, ℕ, ◌+◌, ◌<◌, ◌≤◌, ◌^◌, List, [], ◌∷◌, codes, Bool, false, ◌&&◌, nat_le, Result, Ok, Err, if◌then◌else◌}
use Rattle.std.specs.Fmt.{decimal}
use Rattle.std.specs.Str.{bytes_eq}
use Rattle.ksi_schedule.specs.Pieces.{Text, words}
use Rattle.ksi_schedule.specs.Plans.{PlanState}
use Rattle.ksi_corenode.specs.declared.event.CoreEvent.{CoreEvent}
use Rattle.ksi_corenode.specs.CoreState.{CoreState}
use Rattle.ksi_corenode.specs.Events.{event_second, IsAsked, MayTake}
use Rattle.ksi_corenode.specs.Owners.{BringsOwned}
use Rattle.ksi_wire.specs.declared.fault.WireFault.{WireFault}
use Rattle.ksi_wire.specs.declared.fault.WireFault.TheVariants.{Number}
use Rattle.ksi_wire.specs.declared.questions.ChainEnds.{ChainEnds}
use Rattle.ksi_wire.specs.declared.questions.Span.{Span}
use Rattle.ksi_wire.specs.declared.questions.CoreLine.{CoreLine}
use Rattle.ksi_wire.specs.declared.questions.CoreLine.TheVariants as lines
use Rattle.ksi_wire.specs.Lines.{core_words}
use Rattle.ksi_wire.specs.Asked.{Got, ◌>>=◌, word_in, number_in, second_in, core_event_of, if_spelled}

-- the first word is this one
abbrev pub asks : (kind : Text) → List Text → Bool
asks kind [] = false
asks kind (word ∷ rest) = bytes_eq word kind

-- ---- what the core has of some seconds

-- the words of its line
abbrev pub held_words : Span → List Text
held_words span = codes "held" ∷ decimal span.from ∷ decimal span.count ∷ []

-- 1 to 1,024 seconds, from one of the plan's on
abbrev pub span_in : PlanState → List Text → Got Span
span_in plan ws =
    word_in ws >>= λ kind ws. second_in plan ws >>= λ from ws. number_in ws >>= λ count rest.
    if nat_le 1 count && nat_le count 1024 then Ok (record { from = from; count = count }, rest) else Err Number

-- the seconds that a line asks for, or why it asks for none
unfoldable pub held_of : PlanState → (line : Text) → Result Span WireFault
held_of plan line = if_spelled held_words line (span_in plan (words line))

-- ---- the chain of a second

-- the words of its line
abbrev pub chain_words : ChainEnds → List Text
chain_words ends = codes "chain" ∷ decimal ends.from ∷ decimal ends.to ∷ []

-- two of the plan's seconds
abbrev pub ends_in : PlanState → List Text → Got ChainEnds
ends_in plan ws = word_in ws >>= λ kind ws. second_in plan ws >>= λ from ws. second_in plan ws >>= λ to rest. Ok (record { from = from; to = to }, rest)

-- the chain that a line asks for, or why it asks for none
unfoldable pub chain_of : PlanState → (line : Text) → Result ChainEnds WireFault
chain_of plan line = if_spelled chain_words line (ends_in plan (words line))

-- ---- what a line asks

abbrev pub as_event : Result CoreEvent WireFault → Result CoreLine WireFault
as_event (Ok event) = Ok (lines.Event event)
as_event (Err fault) = Err fault

abbrev pub as_question : Result Span WireFault → Result CoreLine WireFault
as_question (Ok span) = Ok (lines.Held span)
as_question (Err fault) = Err fault

abbrev pub as_chain : Result ChainEnds WireFault → Result CoreLine WireFault
as_chain (Ok ends) = Ok (lines.Chain ends)
as_chain (Err fault) = Err fault

-- what a line asks of a core of the plan, or why it asks nothing
abbrev pub core_line_of : PlanState → (me : ℕ) → (line : Text) → Result CoreLine WireFault
core_line_of plan me line =
    if asks (codes "held") (words line) then as_question (held_of plan line)
    else if asks (codes "chain") (words line) then as_chain (chain_of plan line)
    else as_event (core_event_of plan me line)

-- the seconds fit 64 bits
abbrev pub IsSpan : Span → Type 0
IsSpan span = span.from + span.count < 2 ^ 64

-- the words of its line
abbrev pub core_line_words : CoreLine → List Text
core_line_words (lines.Event event) = core_words event
core_line_words (lines.Held span) = held_words span
core_line_words (lines.Chain ends) = chain_words ends

-- an event may come to a core with the plan's start, a query has a valid span, and a chain ends at or after the start and
-- below 2^63
abbrev pub MayBeAsked : PlanState → CoreLine → Type 0
MayBeAsked plan (lines.Event event) = (it : CoreState) → it.start ≡ plan.start → MayTake it event × IsAsked it (event_second event)
MayBeAsked plan (lines.Held span) = IsSpan span
MayBeAsked plan (lines.Chain ends) = (plan.start ≤ ends.to) × (ends.to < 2 ^ 63)

-- the ballot that an event brings, if any, is of one of this many cores
abbrev pub AsksOwned : (cores : ℕ) → CoreLine → Type 0
AsksOwned cores (lines.Event event) = BringsOwned cores event
AsksOwned cores (lines.Held span) = Unit {0}
AsksOwned cores (lines.Chain ends) = Unit {0}
