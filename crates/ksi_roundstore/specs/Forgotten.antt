-- An aggregator that forgot rounds, compared with one that forgot none.
use Rattle.std.specs.Prelude.{◌≡◌, ◌⊎◌, ℕ, ◌<◌, List, [], ◌∷◌, Some, None}
use Rattle.ksi_aggregator.specs.declared.event.RoundEvent.{RoundEvent}
use Rattle.ksi_aggregator.specs.Events.{event_second, round_row}
use Rattle.ksi_aggregator.specs.Rows.{RoundState, RoundTurn}
use Rattle.ksi_aggregator.specs.Settled.{IsSettled}
use Rattle.ksi_roundstore.specs.Facts.{round_after}

-- a round that was closed without items
abbrev pub closed_empty : RoundState
closed_empty = record { open_items = []; closed = Some []; answered = None }

-- the round of an early second was settled, and is now as if it had been closed without items
pub record IsGone (before second : ℕ) (round forgot : RoundState) : Type 0 where
  pub early : second < before
  pub settled : IsSettled round
  pub empty : forgot ≡ closed_empty

-- each round is the same, or it is gone
abbrev pub AreForgotten : (before : ℕ) → (rounds forgot : ℕ → RoundState) → Type 0
AreForgotten before rounds forgot = (t : ℕ) → (forgot t ≡ rounds t) ⊎ IsGone before t (rounds t) (forgot t)

-- two turns have the same answer, fact and messages
pub record SayTheSame (one other : RoundTurn) : Type 0 where
  pub answer : one.answer ≡ other.answer
  pub fact : one.fact ≡ other.fact
  pub sends : one.sends ≡ other.sends

-- so do the turns of each of these events, in order
abbrev pub SayTheSameOf : (image : List ℕ → List ℕ) → (rounds forgot : ℕ → RoundState) → List RoundEvent → Type 0
SayTheSameOf image rounds forgot [] = Unit {0}
SayTheSameOf image rounds forgot (event ∷ list) =
    SayTheSame (round_row image event (forgot (event_second event))) (round_row image event (rounds (event_second event)))
    × SayTheSameOf image (round_after image rounds event) (round_after image forgot event) list
