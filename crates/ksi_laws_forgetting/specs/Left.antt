-- The facts of a core that are left when seconds are forgotten: their roots.
use Rattle.std.specs.Prelude.{◌≡◌, true, ℕ, ◌&&◌, nat_lt, Bool, if◌then◌else◌, is_some, List, [], ◌∷◌, ◌++◌}
use Rattle.ksi_corenode.specs.declared.fact.What.{What}
use Rattle.ksi_corenode.specs.declared.fact.What.TheVariants.{Sealed, Tried, Promised, Cast, Holds}
use Rattle.ksi_corenode.specs.declared.fact.Fact.{Fact}
use Rattle.ksi_corenode.specs.Facts.{StableState, fact_of}
use Rattle.ksi_corenode.specs.Lawful.{stored_by}

-- of a forgotten second only the root is left
abbrev pub root_left : (second : ℕ) → What → List Fact
root_left second (Sealed items) = []
root_left second (Tried ballot) = []
root_left second (Promised ballot) = []
root_left second (Cast vote) = []
root_left second (Holds root) = fact_of second (Holds root) ∷ []

-- the facts of forgotten seconds are reduced in this way; any other fact is kept
abbrev pub left_of_one : (forgotten : ℕ → Bool) → Fact → List Fact
left_of_one forgotten fact = if forgotten fact.second then root_left fact.second fact.what else fact ∷ []

-- the facts left, in order
abbrev pub left_of : (forgotten : ℕ → Bool) → List Fact → List Fact
left_of forgotten [] = []
left_of forgotten (fact ∷ facts) = left_of_one forgotten fact ++ left_of forgotten facts

-- by the facts, a root is held for each forgotten second
abbrev pub AreHeld : (forgotten : ℕ → Bool) → List Fact → Type 0
AreHeld forgotten facts = (t : ℕ) → forgotten t ≡ true → is_some (stored_by facts t).held ≡ true

-- the second is before this one, and a root is held for it
abbrev pub is_forgotten : (before : ℕ) → (stored : ℕ → StableState) → (second : ℕ) → Bool
is_forgotten before stored second = nat_lt second before && is_some (stored second).held

-- the facts left if each second before this one that is held by them is forgotten
abbrev pub left_before : (before : ℕ) → List Fact → List Fact
left_before before facts = left_of (is_forgotten before (stored_by facts)) facts
