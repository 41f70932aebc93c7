-- The events that make up a fact.
use Rattle.std.specs.Prelude.{◌≡◌, ℕ, ◌==◌, Bool, true, false, if◌then◌else◌, List, [], ◌∷◌, ◌++◌}
use Rattle.std.specs.List.{list_all}
use Rattle.ksi_signature.specs.declared.answer.Answer.{Answer}
use Rattle.ksi_signature.specs.declared.answer.Answer.TheVariants as answers
use Rattle.ksi_aggregator.specs.declared.event.RoundEvent.{RoundEvent}
use Rattle.ksi_aggregator.specs.declared.event.RoundEvent.TheVariants as events
use Rattle.ksi_aggregator.specs.Events.{event_second, MayTake, round_row}
use Rattle.ksi_aggregator.specs.Rows.{RoundState}

-- it brings an item to the round of a second
abbrev pub is_item_of : (second : ℕ) → RoundEvent → Bool
is_item_of second (events.Request number t imprint name) = t == second
is_item_of second (events.Submission from t item) = t == second
is_item_of second (events.Close t) = false
is_item_of second (events.Response t above) = false

-- after these events, this one completes a fact
abbrev pub is_last_behind : (items : List RoundEvent) → RoundEvent → Bool
is_last_behind items (events.Request number t imprint name) = false
is_last_behind items (events.Submission from t item) = false
is_last_behind items (events.Close second) = list_all (is_item_of second) items
is_last_behind [] (events.Response second above) = true
is_last_behind (item ∷ items) (events.Response second above) = false

-- these events make up a fact, or they do not
abbrev pub IsMade : List RoundEvent → Bool → Type 0
IsMade list true = (items : List RoundEvent) × (last : RoundEvent) × (list ≡ items ++ last ∷ []) × (is_last_behind items last ≡ true)
IsMade list false = (items : List RoundEvent) (last : RoundEvent) → list ≡ items ++ last ∷ [] → is_last_behind items last ≡ false

-- an event was accepted: the answer is Number for a request, and Done for any other
abbrev pub is_accepted : Answer → Bool
is_accepted answers.Done = true
is_accepted (answers.Number number) = true
is_accepted _ = false

-- an event is allowed in these rounds, and is accepted
pub record IsAccepted (image : List ℕ → List ℕ) (rounds : ℕ → RoundState) (event : RoundEvent) : Type 0 where
  pub may : MayTake rounds event
  pub accepted : is_accepted (round_row image event (rounds (event_second event))).answer ≡ true

-- the rounds after an event, and after events in their order
abbrev pub round_after : (List ℕ → List ℕ) → (ℕ → RoundState) → RoundEvent → ℕ → RoundState
round_after image rounds event t = if t == event_second event then (round_row image event (rounds (event_second event))).after else rounds t

abbrev pub rounds_after : (List ℕ → List ℕ) → (ℕ → RoundState) → List RoundEvent → ℕ → RoundState
rounds_after image rounds [] = rounds
rounds_after image rounds (event ∷ list) = rounds_after image (round_after image rounds event) list

-- each of them is accepted after those before it
abbrev pub AreAccepted : (List ℕ → List ℕ) → (ℕ → RoundState) → List RoundEvent → Type 0
AreAccepted image rounds [] = Unit {0}
AreAccepted image rounds (event ∷ list) = IsAccepted image rounds event × AreAccepted image (round_after image rounds event) list

-- ---- in the code

-- an event was accepted and its row applied; or it is not accepted
abbrev pub TakesAs : (List ℕ → List ℕ) → (old new : ℕ → RoundState) → RoundEvent → Bool → Type 0
TakesAs image old new event true = IsAccepted image old event × ((t : ℕ) → new t ≡ round_after image old event t)
TakesAs image old new event false = IsAccepted image old event → ⊥

-- events were accepted and their rows applied; or not all are accepted
abbrev pub TakesAll : (List ℕ → List ℕ) → (old new : ℕ → RoundState) → List RoundEvent → Bool → Type 0
TakesAll image old new list true = AreAccepted image old list × ((t : ℕ) → new t ≡ rounds_after image old list t)
TakesAll image old new list false = AreAccepted image old list → ⊥
