-- The facts that are encoded, and the greatest length of their encodings.
use Rattle.std.specs.Prelude.{ℕ, ◌+◌, ◌*◌, ◌≤◌, length}
use Rattle.ksi_aggtree.specs.Rounds.{most_items}
use Rattle.ksi_corenode.specs.declared.fact.What.{What}
use Rattle.ksi_corenode.specs.declared.fact.What.TheVariants.{Sealed, Tried, Promised, Cast, Holds}
use Rattle.ksi_corenode.specs.Lawful.{AreSubmitted}

-- a fact with items has at most 103 bytes for each, any other at most 50
abbrev pub most_bytes : What → ℕ
most_bytes (Sealed items) = 13 + 103 * length items
most_bytes (Tried ballot) = 50
most_bytes (Promised ballot) = 50
most_bytes (Cast vote) = 50
most_bytes (Holds root) = 50

-- there are at most as many items as a round holds, and aggregators submitted them
abbrev pub CanSpell : What → Type 0
CanSpell (Sealed items) = (length items ≤ most_items) × AreSubmitted items
CanSpell (Tried ballot) = Unit {0}
CanSpell (Promised ballot) = Unit {0}
CanSpell (Cast vote) = Unit {0}
CanSpell (Holds root) = Unit {0}
