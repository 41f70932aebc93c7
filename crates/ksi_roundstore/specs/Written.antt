-- The events whose lines are read back as themselves, and the facts with a text.
use Rattle.std.specs.Prelude.{◌≡◌, ℕ, ◌==◌, false, List, [], ◌∷◌, ◌++◌, map, Ok}
use Rattle.std.specs.List.{AllByRecursion}
use Rattle.ksi_aggtree.specs.declared.entries.Entry.{Entry}
use Rattle.ksi_aggtree.specs.declared.entries.Origin.{Origin}
use Rattle.ksi_aggtree.specs.declared.entries.Origin.TheVariants as origins
use Rattle.ksi_aggtree.specs.declared.item.Item.{Item}
use Rattle.ksi_aggregator.specs.declared.event.RoundEvent.{RoundEvent}
use Rattle.ksi_aggregator.specs.declared.event.RoundEvent.TheVariants as events
use Rattle.ksi_aggregator.specs.declared.fact.Fact.{Fact}
use Rattle.ksi_aggregator.specs.declared.fact.RoundFact.{RoundFact}
use Rattle.ksi_aggregator.specs.declared.fact.RoundFact.TheVariants.{Closed, Answered}
use Rattle.ksi_schedule.specs.Pieces.{Text}
use Rattle.ksi_schedule.specs.Plans.{PlanState}
use Rattle.ksi_schedule.specs.Printed.{line_of}
use Rattle.ksi_wire.specs.declared.event.AggregatorLine.TheVariants as lines
use Rattle.ksi_wire.specs.AskedRounds.{aggregator_line_of}
use Rattle.ksi_wire.specs.RoundLines.{FitsRound, round_words}
use Rattle.ksi_roundstore.specs.Texts.{event_of, fact_text, lines_of}

-- a text without a line feed
abbrev pub IsLine : Text → Type 0
IsLine [] = Unit {0}
IsLine (b ∷ text) = ((b == 10) ≡ false) × IsLine text

-- an event to aggregator me of a plan that its line encodes: the line has no line feed, and is read as this event
pub record IsWritten (plan : PlanState) (me : ℕ) (event : RoundEvent) : Type 0 where
  pub line : IsLine (line_of (round_words event))
  pub fits : FitsRound event
  pub asked : aggregator_line_of plan me (line_of (round_words event)) ≡ Ok (lines.Event event)

-- a line is read as this event: it is the event's line, and if it has no line feed, it encodes the event
pub record IsReadAs (plan : PlanState) (me : ℕ) (line : Text) (event : RoundEvent) : Type 0 where
  pub text : line ≡ line_of (round_words event)
  pub written : IsLine line → IsWritten plan me event

-- this text consists of the lines of events to aggregator me of a plan, which encode them
pub record AreLinesIn (plan : PlanState) (me : ℕ) (text : Text) : Type 0 where
  pub list : List RoundEvent
  pub text_is : text ≡ lines_of list
  pub written : AllByRecursion (IsWritten plan me) list

-- the events of a fact: those of a round's items and its closing, or that of its response
abbrev pub what_events : (second : ℕ) → RoundFact → List RoundEvent
what_events second (Closed items) = map (event_of second) items ++ events.Close second ∷ []
what_events second (Answered above) = events.Response second above ∷ []

abbrev pub fact_events : Fact → List RoundEvent
fact_events fact = what_events fact.second fact.what

-- the content is the text of a fact, whose lines encode its events
pub record IsTextOf (plan : PlanState) (me : ℕ) (fact : Fact) (content : List ℕ) : Type 0 where
  pub written : AllByRecursion (IsWritten plan me) (fact_events fact)
  pub text : content ≡ fact_text fact

-- each record is the text of the fact with the same index
abbrev pub AreTexts : PlanState → (me : ℕ) → List Fact → List (List ℕ) → Type 0
AreTexts plan me [] [] = Unit {0}
AreTexts plan me [] (content ∷ contents) = ⊥
AreTexts plan me (fact ∷ facts) [] = ⊥
AreTexts plan me (fact ∷ facts) (content ∷ contents) = IsTextOf plan me fact content × AreTexts plan me facts contents

-- an item of a request has level 0: its line has no level
abbrev pub IsPlainItem : Origin → Item → Type 0
IsPlainItem (origins.Request number) item = item.level ≡ 0
IsPlainItem (origins.Aggregator from) item = Unit {0}

abbrev pub IsPlainEntry : Entry → Type 0
IsPlainEntry entry = IsPlainItem entry.origin entry.item

abbrev pub IsPlain : RoundFact → Type 0
IsPlain (Closed items) = AllByRecursion IsPlainEntry items
IsPlain (Answered above) = Unit {0}
