-- Rounds under other numbers of requests.
use Rattle.std.specs.Prelude.{◌≡◌, ℕ, List, map, option_map, Option, Some, None}
use Rattle.ksi_aggtree.specs.declared.entries.Entry.{Entry}
use Rattle.ksi_aggtree.specs.declared.entries.Origin.{Origin}
use Rattle.ksi_aggtree.specs.declared.entries.Origin.TheVariants as origins
use Rattle.ksi_signature.specs.declared.answer.Answer.{Answer}
use Rattle.ksi_signature.specs.declared.answer.Answer.TheVariants as answers
use Rattle.ksi_aggregator.specs.declared.event.RoundEvent.{RoundEvent}
use Rattle.ksi_aggregator.specs.declared.event.RoundEvent.TheVariants as events
use Rattle.ksi_aggregator.specs.declared.fact.RoundFact.{RoundFact}
use Rattle.ksi_aggregator.specs.declared.fact.RoundFact.TheVariants.{Closed, Answered}
use Rattle.ksi_aggregator.specs.Rows.{RoundState, RoundTurn}

-- no two numbers have one new name
abbrev pub IsOneToOne : (ℕ → ℕ) → Type 0
IsOneToOne name = (a b : ℕ) → name a ≡ name b → a ≡ b

module _ (name : ℕ → ℕ) where
  -- the number of a request is another one; an aggregator's stays
  abbrev pub origin_renamed : Origin → Origin
  origin_renamed (origins.Request number) = origins.Request (name number)
  origin_renamed (origins.Aggregator from) = origins.Aggregator from

  abbrev pub entry_renamed : Entry → Entry
  entry_renamed entry = record { origin = origin_renamed entry.origin; item = entry.item }

  abbrev pub entries_renamed : List Entry → List Entry
  entries_renamed entries = map entry_renamed entries

  abbrev pub round_renamed : RoundState → RoundState
  round_renamed r = record { open_items = entries_renamed r.open_items; closed = option_map entries_renamed r.closed; answered = r.answered }

  -- an answer that is a request's number
  abbrev pub answer_renamed : Answer → Answer
  answer_renamed (answers.Number number) = answers.Number (name number)
  answer_renamed answer = answer

  abbrev pub fact_renamed : RoundFact → RoundFact
  fact_renamed (Closed entries) = Closed (entries_renamed entries)
  fact_renamed (Answered above) = Answered above

  abbrev pub event_renamed : RoundEvent → RoundEvent
  event_renamed (events.Request number second imprint called) = events.Request (name number) second imprint called
  event_renamed (events.Submission from second item) = events.Submission from second item
  event_renamed (events.Close second) = events.Close second
  event_renamed (events.Response second above) = events.Response second above

  -- what is sent has no number of a request
  abbrev pub turn_renamed : RoundTurn → RoundTurn
  turn_renamed turn = record { after = round_renamed turn.after; answer = answer_renamed turn.answer; fact = option_map fact_renamed turn.fact; sends = turn.sends }
