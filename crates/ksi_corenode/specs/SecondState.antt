-- The state of one second of a core.
use Rattle.std.specs.Prelude.{ℕ, List, [], Option, None}
use Rattle.ksi_aggtree.specs.declared.entries.Entry.{Entry}
use Rattle.ksi_synod.specs.CorePlans.{CorePlanState, voters_of}
use Rattle.ksi_synod.specs.VoteState.{VoteState, fresh_vote}

-- its part in the vote, the open items, and the sealed items if it is sealed
pub record SecondState : Type 0 where
  pub vote : VoteState
  pub open_items : List Entry
  pub sealed : Option (List Entry)

-- a second before any event
unfoldable pub fresh_second : (me : ℕ) → CorePlanState → (second : ℕ) → SecondState
fresh_second me plan second = record { vote = fresh_vote me (voters_of plan second); open_items = []; sealed = None }
