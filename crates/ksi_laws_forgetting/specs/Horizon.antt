-- An aggregator that dropped the rounds before a second, its horizon, compared with one that keeps all.
use Rattle.std.specs.Prelude.{◌≡◌, ℕ, ◌≤◌, ◌<◌, ◌==◌, nat_le, Bool, if◌then◌else◌, IsTrue, List, [], ◌∷◌, ◌++◌}
use Rattle.ksi_aggregator.specs.declared.event.RoundEvent.{RoundEvent}
use Rattle.ksi_aggregator.specs.declared.fact.Fact.{Fact}
use Rattle.ksi_aggregator.specs.Events.{event_second, round_row}
use Rattle.ksi_aggregator.specs.Rows.{RoundState, fresh_round}

-- whether it takes the event: the second is not before the horizon
abbrev pub is_taken : (before : ℕ) → RoundEvent → Bool
is_taken before event = nat_le before (event_second event)

-- each round from the horizon on is the same, and those before it are fresh
pub record AreFrom (before : ℕ) (rounds recent : ℕ → RoundState) : Type 0 where
  pub kept : (t : ℕ) → before ≤ t → recent t ≡ rounds t
  pub gone : (t : ℕ) → t < before → recent t ≡ fresh_round

-- the rounds after an event
abbrev pub rounds_after : (image : List ℕ → List ℕ) → (ℕ → RoundState) → RoundEvent → ℕ → RoundState
rounds_after image rounds event t = if t == event_second event then (round_row image event (rounds (event_second event))).after else rounds t

-- the rounds of each event that is taken are the same, so its turn is the same; any other event reaches neither aggregator
abbrev pub AreTheSame : (image : List ℕ → List ℕ) → (before : ℕ) → (rounds recent : ℕ → RoundState) → List RoundEvent → Type 0
AreTheSame image before rounds recent [] = Unit {0}
AreTheSame image before rounds recent (event ∷ list) =
    (IsTrue (is_taken before event) → recent (event_second event) ≡ rounds (event_second event))
    × AreTheSame image before (if is_taken before event then rounds_after image rounds event else rounds) (if is_taken before event then rounds_after image recent event else recent) list

-- ---- the facts left: those of the seconds that are kept

abbrev pub left_of : (kept : ℕ → Bool) → List Fact → List Fact
left_of kept [] = []
left_of kept (fact ∷ facts) = (if kept fact.second then fact ∷ [] else []) ++ left_of kept facts

abbrev pub left_from : (before : ℕ) → List Fact → List Fact
left_from before facts = left_of (nat_le before) facts
