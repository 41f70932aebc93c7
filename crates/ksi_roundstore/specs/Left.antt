-- The facts of an aggregator that are left when rounds are forgotten.
use Rattle.std.specs.Prelude.{ℕ, ◌&&◌, nat_lt, Bool, if◌then◌else◌, is_some, List, [], ◌∷◌, ◌++◌}
use Rattle.ksi_aggregator.specs.declared.fact.RoundFact.{RoundFact}
use Rattle.ksi_aggregator.specs.declared.fact.RoundFact.TheVariants.{Closed, Answered}
use Rattle.ksi_aggregator.specs.declared.fact.Fact.{Fact}
use Rattle.ksi_aggregator.specs.Facts.{StableRound}
use Rattle.ksi_aggregator.specs.Rounds.{fact_of}
use Rattle.ksi_aggregator.specs.Lawful.{stored_by}

-- of a forgotten round the closing is left, without items; its response is dropped
abbrev pub what_is_left : (second : ℕ) → RoundFact → List Fact
what_is_left second (Closed items) = fact_of second (Closed []) ∷ []
what_is_left second (Answered above) = []

-- the facts of forgotten seconds are reduced in this way; any other fact is kept
abbrev pub left_of_one : (forgotten : ℕ → Bool) → Fact → List Fact
left_of_one forgotten fact = if forgotten fact.second then what_is_left fact.second fact.what else fact ∷ []

-- the facts left, in order
abbrev pub left_of : (forgotten : ℕ → Bool) → List Fact → List Fact
left_of forgotten [] = []
left_of forgotten (fact ∷ facts) = left_of_one forgotten fact ++ left_of forgotten facts

-- the round of a second is forgotten: the second is before this one, and the round has a response
abbrev pub is_forgotten : (before : ℕ) → (stored : ℕ → StableRound) → (second : ℕ) → Bool
is_forgotten before stored second = nat_lt second before && is_some (stored second).answered

-- the facts left if each round before a second that has a response in them is forgotten
abbrev pub left_before : (before : ℕ) → List Fact → List Fact
left_before before facts = left_of (is_forgotten before (stored_by facts)) facts
