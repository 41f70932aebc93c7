-- The result of taking an event, and the store after it.
use Rattle.std.specs.Prelude.{◌≡◌, ◌⊎◌, ℕ, ◌+◌, ◌<◌, ◌^◌, true, false, List, length, take, IsErrOf, option_map, Option, Some, None, IfSome, Result, Ok, Err}
use Rattle.ksi_ports.specs.Outside.{Raises}
use Rattle.ksi_aggregator.specs.declared.event.RoundEvent.{RoundEvent}
use Rattle.ksi_aggregator.specs.declared.fact.Fact.{Fact}
use Rattle.ksi_aggregator.specs.declared.step.Step.{Step}
use Rattle.ksi_aggregator.specs.Events.{event_second, round_row}
use Rattle.ksi_aggregator.specs.Rows.{RoundState}
use Rattle.ksi_aggregator.specs.Rounds.{AggregatorState, IsTurn, SameRounds, fact_of, rounds_of}
use Rattle.ksi_disk.specs.Costs.{Affords, Meter, Spends}
use Rattle.ksi_disk.specs.declared.log.GateLog.{GateLog}
use Rattle.ksi_disk.specs.Drafts.{Draft}
use Rattle.ksi_disk.specs.Logs.{IsSettled, OpensTo}
use Rattle.ksi_roundstore.specs.declared.refusal.TakeRefusal.{TakeRefusal}
use Rattle.ksi_roundstore.specs.declared.refusal.TakeRefusal.TheVariants.{Failed, Spent, NoMemory}
use Rattle.ksi_roundstore.specs.StoreState.{StoreState, records_in}
use Rattle.ksi_roundstore.specs.Texts.{fact_text, with_record}

-- the fact that an event adds to an aggregator, if any
abbrev pub fact_added : (List ℕ → List ℕ) → AggregatorState → RoundEvent → Option Fact
fact_added image a event = option_map (fact_of (event_second event)) (round_row image event (rounds_of a (event_second event))).fact

-- the step is the turn of an event's row, and the aggregator's number is unchanged
pub record TookTurn (image : List ℕ → List ℕ) (old new : AggregatorState) (event : RoundEvent) (step : Step) : Type 0 where
  pub me : new.me ≡ old.me
  pub turn : IsTurn (rounds_of old) (rounds_of new) (event_second event) (round_row image event (rounds_of old (event_second event))) step

-- a file with the header and the records of another, and one for a fact, if there is one
abbrev pub HasMore : List ℕ → Option Fact → List ℕ → Type 0
HasMore old fact file = OpensTo 20 (take 20 old) (with_record (records_in old) fact) file

-- the same, or without the fact
abbrev pub HasEither : List ℕ → Option Fact → List ℕ → Type 0
HasEither old fact file = HasMore old None file ⊎ HasMore old fact file

-- a log's file is durable, and has the records of an earlier one and that of a fact, if there is one
pub record HasStored {D : Type 0} (content : D → List ℕ) (images : D → List ℕ → Type 0) (fact : Option Fact) (old new : GateLog D) : Type 0 where
  pub settled : IsSettled content images new
  pub from : new.from ≡ 20
  pub file : HasMore (content old.disk) fact (content new.disk)

-- the count of faults after an event: it rises if the disk failed, and is unchanged otherwise
abbrev pub TakeCounts : {T : Type 0} → ℕ → ℕ → Result T TakeRefusal → Type 0
TakeCounts before now (Ok value) = now ≡ before
TakeCounts before now (Err Failed) = Raises before now
TakeCounts before now (Err Spent) = now ≡ before
TakeCounts before now (Err NoMemory) = now ≡ before

-- the aggregator's rounds, the log and the count of records are unchanged
pub record IsUnchanged {D : Type 0} (old new : StoreState D) : Type 0 where
  pub me : new.aggregator.me ≡ old.aggregator.me
  pub rounds : SameRounds (rounds_of old.aggregator) (rounds_of new.aggregator)
  pub log : new.log ≡ old.log
  pub records : new.records ≡ old.records

-- the store after a refusal: after a failure it is spent and its count of records unchanged; any other refusal changes nothing
abbrev pub TakeLeaves : {D : Type 0} → (old new : StoreState D) → Result Step TakeRefusal → Type 0
TakeLeaves old new (Ok step) = new.log.is_spent ≡ false
TakeLeaves old new (Err Failed) = (new.log.is_spent ≡ true) × (new.records ≡ old.records)
TakeLeaves old new (Err Spent) = (old.log.is_spent ≡ true) × IsUnchanged old new
TakeLeaves old new (Err NoMemory) = IsUnchanged old new

-- a record has five bytes more than the text of its fact, and the closed commit byte one; without a fact the cost is zero
abbrev pub SpendsFor : Option Fact → Option Meter → Option Meter → Type 0
SpendsFor None old new = new ≡ old
SpendsFor (Some fact) old new = Spends (length (fact_text fact) + 6) 4 old new

abbrev pub AffordsFor : Option Fact → Option Meter → Type 0
AffordsFor None meter = Unit {0}
AffordsFor (Some fact) meter = Affords (length (fact_text fact) + 6) 4 meter

-- the capacity that an event uses, for a disk that reports it; the disk does not fail while there is enough
pub record IsCost {T : Type 0} (fact : Option Fact) (old new : Option Meter) (result : Result T TakeRefusal) : Type 0 where
  pub spends : SpendsFor fact old new
  pub sure : AffordsFor fact old → IsErrOf result Failed → ⊥

-- the number of facts, 0 or 1
abbrev pub count_new : Option Fact → ℕ
count_new None = 0
count_new (Some fact) = 1

-- ---- in the code

-- a record with the text of the fact that an event adds to its round; None if the event adds none
abbrev pub HasRecordFor : (List ℕ → List ℕ) → RoundState → RoundEvent → Option Draft → Type 0
HasRecordFor image r event None = (round_row image event r).fact ≡ None
HasRecordFor image r event (Some draft) =
    IfSome (round_row image event r).fact (λ what. draft.content ≡ fact_text (fact_of (event_second event) what)) × (length draft.content < 2 ^ 32)

-- if there is a fact, there is a record with its text
abbrev pub IsReady : Option Draft → Option Fact → Type 0
IsReady draft None = Unit {0}
IsReady None (Some fact) = ⊥
IsReady (Some draft) (Some fact) = (draft.content ≡ fact_text fact) × (length draft.content < 2 ^ 32)
