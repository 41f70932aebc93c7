-- What an aggregator stores for good: its facts, and what they make of a round's stable part.
use Rattle.std.specs.Prelude.{◌≡◌, ℕ, ◌==◌, if◌then◌else◌, List, Option, Some, None}
use Rattle.ksi_aggtree.specs.declared.entries.Entry.{Entry}
use Rattle.ksi_signature.specs.declared.above.Above.{Above}
use Rattle.ksi_aggregator.specs.declared.fact.RoundFact.{RoundFact}
use Rattle.ksi_aggregator.specs.declared.fact.RoundFact.TheVariants.{Closed, Answered}
use Rattle.ksi_aggregator.specs.declared.fact.Fact.{Fact}
use Rattle.ksi_aggregator.specs.Rows.{RoundState, RoundTurn}

-- the stable part of a round: the items that it was closed with, and its response. A restart leaves it
pub record StableRound : Type 0 where
  pub closed : Option (List Entry)
  pub answered : Option Above

abbrev pub stable_round : RoundState → StableRound
stable_round r = record { closed = r.closed; answered = r.answered }

-- no response is kept before the round is closed
abbrev pub AnsweredLast : RoundState → Type 0
AnsweredLast r = r.closed ≡ None → r.answered ≡ None

-- the stable part with what is stored
abbrev pub with_what : RoundFact → StableRound → StableRound
with_what (Closed items) s = record s { closed = Some items }
with_what (Answered above) s = record s { answered = Some above }

abbrev pub with_stored : Option RoundFact → StableRound → StableRound
with_stored None s = s
with_stored (Some what) s = with_what what s

-- a turn stores its fact: the stable part of the round after it is the one before with that fact
abbrev pub Stores : RoundState → RoundTurn → Type 0
Stores r turn = stable_round turn.after ≡ with_stored turn.fact (stable_round r)

-- a round's stable part with a fact, which is one of this second or of another
abbrev pub with_fact : Option Fact → (second : ℕ) → StableRound → StableRound
with_fact None second s = s
with_fact (Some fact) second s = if second == fact.second then with_what fact.what s else s
