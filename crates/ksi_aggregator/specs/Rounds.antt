-- What an aggregator shows: its round of each second, and what a step makes of them.
use Rattle.std.specs.Prelude.{◌≡◌, ◌≤◌, ℕ, true, ◌==◌, if◌then◌else◌, List, length, slice_get, unwrap_or, option_map, Some}
use Rattle.std.specs.Ordering.{nat_cmp}
use Rattle.std.specs.BTreeMap.{is_at}
use Rattle.std.specs.Map.{lookup}
use Rattle.ksi_aggtree.specs.declared.item.Item.{Item}
use Rattle.ksi_aggtree.specs.declared.entries.Entry.{Entry}
use Rattle.ksi_aggtree.specs.declared.entries.Origin.TheVariants as origins
use Rattle.ksi_signature.specs.declared.above.Above.{Above}
use Rattle.ksi_aggregator.specs.declared.fact.Fact.{Fact}
use Rattle.ksi_aggregator.specs.declared.fact.RoundFact.{RoundFact}
use Rattle.ksi_aggregator.specs.declared.step.Step.{Step}
use Rattle.ksi_aggregator.specs.Responses.{has_lower}
use Rattle.ksi_aggregator.specs.Rows.{RoundState, RoundTurn, fresh_round}

-- the round of a second; where nothing is kept, a fresh one
abbrev pub round_at : List (ℕ × RoundState) → ℕ → RoundState
round_at kept t = unwrap_or (lookup (is_at (nat_cmp t)) kept) fresh_round

-- the items of a round, closed or not
abbrev pub items_in : RoundState → List Entry
items_in r = unwrap_or r.closed r.open_items

-- item k is one of the request
abbrev pub StandsAt : ℕ → List Entry → ℕ → Type 0
StandsAt number entries k = (item : Item) × (slice_get entries k ≡ Some (record { origin = origins.Request number; item = item }))

-- no item of the request is in a round
abbrev pub IsNew : ℕ → (ℕ → RoundState) → Type 0
IsNew number rounds = (t k : ℕ) (item : Item) → slice_get (items_in (rounds t)) k ≡ Some (record { origin = origins.Request number; item = item }) → ⊥

-- the chains above a round leave place for its own, where it has an item of a lower aggregator
abbrev pub HasPlace : RoundState → Above → Type 0
HasPlace r above = has_lower (items_in r) ≡ true → length above.chains ≤ 7

-- an aggregator: its number, and the rounds that it keeps, each with its second
pub record AggregatorState : Type 0 where
  pub me : ℕ
  pub kept : List (ℕ × RoundState)

-- its round of each second
abbrev pub rounds_of : AggregatorState → ℕ → RoundState
rounds_of a = round_at a.kept

-- no round changed
abbrev pub SameRounds : (ℕ → RoundState) → (ℕ → RoundState) → Type 0
SameRounds old new = (t : ℕ) → new t ≡ old t

-- the round of the second is this one, and no other second changed
abbrev pub ChangesOnly : (ℕ → RoundState) → (ℕ → RoundState) → ℕ → RoundState → Type 0
ChangesOnly old new second round = (t : ℕ) → new t ≡ (if t == second then round else old t)

-- the fact of a second
abbrev pub fact_of : (second : ℕ) → RoundFact → Fact
fact_of second what = record { second = second; what = what }

-- the step is this turn of the second, and no other second changed
pub record IsTurn (old new : ℕ → RoundState) (second : ℕ) (turn : RoundTurn) (step : Step) : Type 0 where
  pub after : ChangesOnly old new second turn.after
  pub answer : step.answer ≡ turn.answer
  pub fact : step.fact ≡ option_map (fact_of second) turn.fact
  pub sends : step.sends ≡ turn.sends
