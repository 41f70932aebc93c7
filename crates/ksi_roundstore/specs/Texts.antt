-- The encoding of a fact of an aggregator: the lines of its events.
use Rattle.std.specs.Prelude.{ℕ, List, [], ◌∷◌, ◌++◌, map, Option, Some, None}
use Rattle.ksi_aggtree.specs.declared.entries.Entry.{Entry}
use Rattle.ksi_aggtree.specs.declared.entries.Origin.{Origin}
use Rattle.ksi_aggtree.specs.declared.entries.Origin.TheVariants as origins
use Rattle.ksi_aggtree.specs.declared.item.Item.{Item}
use Rattle.ksi_aggregator.specs.declared.event.RoundEvent.{RoundEvent}
use Rattle.ksi_aggregator.specs.declared.event.RoundEvent.TheVariants as events
use Rattle.ksi_aggregator.specs.declared.fact.Fact.{Fact}
use Rattle.ksi_aggregator.specs.declared.fact.RoundFact.{RoundFact}
use Rattle.ksi_aggregator.specs.declared.fact.RoundFact.TheVariants.{Closed, Answered}
use Rattle.ksi_schedule.specs.Pieces.{Text}
use Rattle.ksi_schedule.specs.Printed.{text_of_lines}
use Rattle.ksi_wire.specs.RoundLines.{round_words}

-- the event that brought an item to the round of a second
abbrev pub event_from : (second : ℕ) → Origin → Item → RoundEvent
event_from second (origins.Request number) item = events.Request number second item.imprint item.name
event_from second (origins.Aggregator from) item = events.Submission from second item

abbrev pub event_of : (second : ℕ) → Entry → RoundEvent
event_of second entry = event_from second entry.origin entry.item

-- the lines of events, each with a line feed
abbrev pub lines_of : List RoundEvent → Text
lines_of list = text_of_lines (map round_words list)

-- the lines of the events of a fact: those of a round's items and its closing, or that of its response
abbrev pub what_text : (second : ℕ) → RoundFact → Text
what_text second (Closed items) = lines_of (map (event_of second) items) ++ lines_of (events.Close second ∷ [])
what_text second (Answered above) = lines_of (events.Response second above ∷ [])

abbrev pub fact_text : Fact → Text
fact_text fact = what_text fact.second fact.what

-- records followed by one for the fact, if there is one
abbrev pub with_record : List Text → Option Fact → List Text
with_record records None = records
with_record records (Some fact) = records ++ fact_text fact ∷ []
