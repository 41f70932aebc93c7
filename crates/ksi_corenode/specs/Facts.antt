-- The facts that a core stores, and their effect on the stable part of a second.
use Rattle.std.specs.Prelude.{◌≡◌, ℕ, ◌==◌, if◌then◌else◌, List, Option, Some, None}
use Rattle.ksi_aggtree.specs.declared.entries.Entry.{Entry}
use Rattle.ksi_synod.specs.declared.messages.Vote.{Vote}
use Rattle.ksi_corenode.specs.declared.fact.What.{What}
use Rattle.ksi_corenode.specs.declared.fact.What.TheVariants.{Sealed, Tried, Promised, Cast, Holds}
use Rattle.ksi_corenode.specs.declared.fact.Fact.{Fact}
use Rattle.ksi_corenode.specs.SecondState.{SecondState}
use Rattle.ksi_corenode.specs.Turns.{Turn}

-- the stable part of a second: its sealed items, the last ballot that was tried and the greatest that was promised (0 if
-- none), the vote of the greatest ballot, and the root held. It survives a restart
pub record StableState : Type 0 where
  pub sealed : Option (List Entry)
  pub tried : ℕ
  pub promised : ℕ
  pub vote : Option Vote
  pub held : Option (List ℕ)

abbrev pub stable_state : SecondState → StableState
stable_state s = record { sealed = s.sealed; tried = s.vote.tried; promised = s.vote.promised; vote = s.vote.vote; held = s.vote.held }

-- the stable part after this is stored
abbrev pub with_what : What → StableState → StableState
with_what (Sealed items) s = record s { sealed = Some items }
with_what (Tried ballot) s = record s { tried = ballot }
with_what (Promised ballot) s = record s { promised = ballot }
with_what (Cast vote) s = record s { vote = Some vote }
with_what (Holds root) s = record s { held = Some root }

abbrev pub with_stored : Option What → StableState → StableState
with_stored None s = s
with_stored (Some what) s = with_what what s

-- a turn stores its fact: the new stable part of the second is the old one with that fact applied
abbrev pub Stores : SecondState → Turn → Type 0
Stores s turn = stable_state turn.after ≡ with_stored turn.fact (stable_state s)

-- the fact of a second
abbrev pub fact_of : (second : ℕ) → What → Fact
fact_of second what = record { second = second; what = what }

-- the stable part of a second after a fact, which may be of another second
abbrev pub with_fact : Option Fact → (second : ℕ) → StableState → StableState
with_fact None second s = s
with_fact (Some fact) second s = if second == fact.second then with_what fact.what s else s
