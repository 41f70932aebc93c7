-- What a world says to the entries of a record, each at its place.
use Rattle.std.specs.Prelude.{◌≡◌, ◌<◌, ◌^◌, ℕ, ◌+◌, All, Bool, false, List, [], ◌∷◌, ◌++◌, codes, drop, take, length, map, slice_get, Option, Some, None}
use Rattle.hex.specs.Hex.{encode_lower}
use Rattle.ksi_schedule.specs.Pieces.{Text}
use Rattle.ksi_schedule.specs.Printed.{line_of, text_of_lines}
use Rattle.ksi_schedule.specs.Plans.{PlanState}
use Rattle.ksi_schedule.specs.declared.event.Event.{Event}
use Rattle.ksi_schedule.specs.declared.event.Event.TheVariants as events
use Rattle.ksi_signature.specs.declared.answer.Answer.{Answer}
use Rattle.ksi_signature.specs.declared.answer.Answer.TheVariants as answers
use Rattle.ksi_world.specs.declared.message.Message.{Message}
use Rattle.ksi_world.specs.Histories.{Happening, happens, after}
use Rattle.ksi_world.specs.Records.{issued_of}
use Rattle.ksi_wire.specs.Steps.{step_text}
use Rattle.ksi_records.specs.Texts.{message_words}
use Rattle.ksi_records.specs.declared.head.Given.{Given}
use Rattle.ksi_records.specs.declared.head.Given.TheVariants as given
use Rattle.ksi_records.specs.declared.head.Head.{Head}
use Rattle.ksi_records.specs.declared.head.Head.TheVariants as heads
use Rattle.ksi_records.specs.declared.fault.RecordFault.{RecordFault}
use Rattle.ksi_records.specs.declared.fault.RecordFault.TheVariants as faults
use Rattle.ksi_records.specs.declared.version.Version.{Version}
use Rattle.ksi_records.specs.declared.version.Version.TheVariants as versions
use Rattle.ksi_records.specs.Entries.{Entry, restart_of}

-- ---- blocks

-- a request's number is that which it had in the run: the world numbers requests in their order
abbrev pub answer_as : Given → Answer → Answer
answer_as (given.Line number event) (answers.Number n) = answers.Number number
answer_as it answer = answer

-- the block of what came of an event in a world with these messages
abbrev pub block_text : Given → (before : List Message) → (stored : Bool) → Happening → Text
block_text it before stored h = step_text (answer_as it h.outcome.answer) stored (map message_words (drop (length before) h.world.wire))

-- the answer to whoever asks for a signature
abbrev pub signature_words : Option (List ℕ) → List Text
signature_words (Some bytes) = codes "signature" ∷ encode_lower bytes ∷ []
signature_words None = codes "not" ∷ codes "issued" ∷ []

abbrev pub signature_block : Option (List ℕ) → Text
signature_block found = text_of_lines (signature_words found ∷ (codes "." ∷ []) ∷ [])

-- ---- lines that came

-- the message of this number is this line: the addressee and its line, as they follow `send ` in the block of the sender
pub record IsMessageLine (wire : List Message) (number : ℕ) (came : Text) : Type 0 where
  pub message : Message
  pub sent : slice_get wire number ≡ Some message
  pub line : line_of (message_words message) ≡ codes "send " ++ came

module _ (image : List ℕ → List ℕ) (plan : PlanState) where
  -- ---- messages and requests by the steps that sent and accepted them

  -- how many messages were sent before this step, and how many requests were accepted
  abbrev pub sent_before : List Event → (step : ℕ) → ℕ
  sent_before es step = length (after image plan (take step es)).wire

  abbrev pub accepted_before : List Event → (step : ℕ) → ℕ
  accepted_before es step = length (after image plan (take step es)).requests

  -- the step is one of those so far, and sent more messages than this number
  abbrev pub IsSent : List Event → (step place : ℕ) → Type 0
  IsSent es step place = (step < length es) × (sent_before es step + place < sent_before es (step + 1))

  -- the step is one of those so far, and accepted a request
  abbrev pub IsAccepted : List Event → (step : ℕ) → Type 0
  IsAccepted es step = (step < length es) × (accepted_before es step < accepted_before es (step + 1))

  -- ---- the history of a record

  abbrev pub event_of : List Event → Given → Event
  event_of es (given.Line number event) = event
  event_of es (given.Message step place) = events.Deliver (sent_before es step + place)

  -- the events so far, and that of an entry
  abbrev pub with_head : List Event → Head → List Event
  with_head es (heads.Said it) = es ++ event_of es it ∷ []
  with_head es (heads.Unsaid it) = es ++ event_of es it ∷ []
  with_head es (heads.Restarted actor) = es ++ restart_of actor ∷ []
  with_head es (heads.Sign step) = es

  abbrev pub IsNamed : List Event → Given → Type 0
  IsNamed es (given.Line number event) = Unit {0}
  IsNamed es (given.Message step place) = IsSent es step place

  -- the line that came is the text of the message that came; version 1 does not have the line
  abbrev pub HasCome : Version → List Event → Given → (came : Text) → Type 0
  HasCome version es (given.Line number event) came = Unit {0}
  HasCome versions.One es (given.Message step place) came = Unit {0}
  HasCome versions.Two es (given.Message step place) came = IsMessageLine (after image plan es).wire (sent_before es step + place) came

  -- the line that came is the message, and the block is what the world says: to a step after these events, or to whoever asks
  -- for the signature of a request
  abbrev pub IsTold : Version → List Event → Head → (came block : Text) → Type 0
  IsTold version es (heads.Said it) came block =
      IsNamed es it × HasCome version es it came
      × (stored : Bool) × (block ≡ block_text it (after image plan es).wire stored (happens image plan (after image plan es) (event_of es it)))
  IsTold version es (heads.Unsaid it) came block = IsNamed es it × HasCome version es it came × (block ≡ [])
  IsTold version es (heads.Restarted actor) came block = block ≡ []
  IsTold version es (heads.Sign step) came block =
      IsAccepted es step × (block ≡ signature_block (issued_of image (after image plan es) (accepted_before es step)))

  -- each entry, after the events before it, and all events are these
  abbrev pub AreTold : Version → List Event → List Entry → List Event → Type 0
  AreTold version es [] all = es ≡ all
  AreTold version es (entry ∷ entries) all = IsTold version es entry.head entry.came entry.block × AreTold version (with_head es entry.head) entries all

  -- ---- differences from the world

  -- what the head names is there
  abbrev pub MayCome : List Event → Head → Type 0
  MayCome es (heads.Said it) = IsNamed es it
  MayCome es (heads.Unsaid it) = IsNamed es it
  MayCome es (heads.Restarted actor) = Unit {0}
  MayCome es (heads.Sign step) = IsAccepted es step

  -- no step sent such a message
  abbrev pub IsUnnamed : List Event → Given → RecordFault → Type 0
  IsUnnamed es it faults.Message = ¬ IsNamed es it
  IsUnnamed es it _ = ⊥

  -- the step accepted no request
  abbrev pub IsUnaccepted : List Event → (step : ℕ) → RecordFault → Type 0
  IsUnaccepted es step faults.Request = ¬ IsAccepted es step
  IsUnaccepted es step _ = ⊥

  -- what the head names is not there
  abbrev pub IsMissing : List Event → Head → RecordFault → Type 0
  IsMissing es (heads.Said it) fault = IsUnnamed es it fault
  IsMissing es (heads.Unsaid it) fault = IsUnnamed es it fault
  IsMissing es (heads.Restarted actor) fault = ⊥
  IsMissing es (heads.Sign step) fault = IsUnaccepted es step fault

  -- ---- the world's block of a step whose reply was lost

  -- the block of a step, but for the line of whether a fact was stored
  abbrev pub unsaid_block : List Event → Given → Text
  unsaid_block es it = block_text it (after image plan es).wire false (happens image plan (after image plan es) (event_of es it))

-- ---- in the code

-- messages about seconds before 2^63, as each of a plan's is
abbrev pub AreEarly : List Message → Type 0
AreEarly messages = All (λ message. message.second < 2 ^ 63) messages
