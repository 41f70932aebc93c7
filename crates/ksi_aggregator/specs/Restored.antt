-- An aggregator that comes back with its facts.
use Rattle.std.specs.Prelude.{◌≡◌, ℕ, List, [], Some, None}
use Rattle.ksi_aggtree.specs.declared.entries.Entry.{Entry}
use Rattle.ksi_aggregator.specs.declared.fact.Fact.{Fact}
use Rattle.ksi_aggregator.specs.Facts.{StableRound, AnsweredLast, stable_round}
use Rattle.ksi_aggregator.specs.Rows.{RoundState}
use Rattle.ksi_aggregator.specs.Rounds.{AggregatorState, rounds_of, items_in}
use Rattle.ksi_aggregator.specs.Lawful.{stored_by, AreLawful, AreAdded, AreApart}

-- a round of its stable part alone: no item is open
abbrev pub restored : StableRound → RoundState
restored s = record { open_items = []; closed = s.closed; answered = s.answered }

-- the aggregator of this number, each round of which is what the facts make of it
pub record IsOfFacts (me : ℕ) (facts : List Fact) (a : AggregatorState) : Type 0 where
  pub mine : a.me ≡ me
  pub rounds : (t : ℕ) → rounds_of a t ≡ restored (stored_by facts t)

-- true of each round after every step: it took its open items one after the other, it has none once it is closed, and no
-- response is kept before
pub record IsWell (r : RoundState) : Type 0 where
  pub added : AreAdded [] r.open_items
  pub emptied : (entries : List Entry) → r.closed ≡ Some entries → r.open_items ≡ []
  pub last : AnsweredLast r

-- rounds that stored these facts and no others, in their order, each of them lawfully
pub record HasFacts (facts : List Fact) (rounds : ℕ → RoundState) : Type 0 where
  pub lawful : AreLawful facts
  pub stored : (t : ℕ) → stable_round (rounds t) ≡ stored_by facts t
  pub well : (t : ℕ) → IsWell (rounds t)
  pub apart : AreApart (λ t. items_in (rounds t))
