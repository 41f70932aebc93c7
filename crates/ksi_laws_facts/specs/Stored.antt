-- What a step of a node stores, as deeds of its actor.
use Rattle.std.specs.Prelude.{◌≡◌, ℕ, ◌==◌, if◌then◌else◌, List, [], ◌∷◌, Option, Some, None}
use Rattle.ksi_corenode.specs.declared.fact.What.{What}
use Rattle.ksi_corenode.specs.declared.fact.What.TheVariants as whats
use Rattle.ksi_corenode.specs.declared.fact.Fact as core
use Rattle.ksi_corenode.specs.SecondState.{SecondState}
use Rattle.ksi_corenode.specs.Turns.{Turn}
use Rattle.ksi_aggregator.specs.declared.fact.RoundFact.{RoundFact}
use Rattle.ksi_aggregator.specs.declared.fact.RoundFact.TheVariants as round_facts
use Rattle.ksi_aggregator.specs.declared.fact.Fact as round
use Rattle.ksi_aggregator.specs.Rows.{RoundState, RoundTurn}
use Rattle.ksi_laws_facts.specs.Deeds.{Act, Sealed, Closed, Tried, Promised, Cast, Holds, Answered}
use Rattle.ksi_laws_facts.specs.Steps.{new_facts, new_round_facts}

-- what a core stores
abbrev pub core_act : What → Act
core_act (whats.Sealed items) = Sealed items
core_act (whats.Tried ballot) = Tried ballot
core_act (whats.Promised ballot) = Promised ballot
core_act (whats.Cast vote) = Cast vote
core_act (whats.Holds root) = Holds root

abbrev pub core_acts : Option What → List Act
core_acts None = []
core_acts (Some what) = core_act what ∷ []

-- what an aggregator stores
abbrev pub round_act : RoundFact → Act
round_act (round_facts.Closed items) = Closed items
round_act (round_facts.Answered above) = Answered above

abbrev pub round_acts : Option RoundFact → List Act
round_acts None = []
round_acts (Some what) = round_act what ∷ []

-- what a step stores for a second, which is the one of its fact or another
abbrev pub core_stores : Option core.Fact → (second : ℕ) → List Act
core_stores None t = []
core_stores (Some fact) t = if t == fact.second then core_act fact.what ∷ [] else []

abbrev pub round_stores : Option round.Fact → (second : ℕ) → List Act
round_stores None t = []
round_stores (Some fact) t = if t == fact.second then round_act fact.what ∷ [] else []

-- the facts that a turn adds to its second are what it stores
abbrev pub AddsStored : SecondState → Turn → Type 0
AddsStored s turn = new_facts s turn.after ≡ core_acts turn.fact

abbrev pub RoundAddsStored : RoundState → RoundTurn → Type 0
RoundAddsStored r turn = new_round_facts r turn.after ≡ round_acts turn.fact
