-- One node's run in the terms of logs: what it has, what it says to what it takes, and what it has then.
use Rattle.std.specs.Prelude.{◌≡◌, ℕ, Bool, List, [], ◌∷◌, is_some}
use Rattle.ksi_schedule.specs.Pieces.{Text}
use Rattle.ksi_schedule.specs.Plans.{PlanState, core_plan_of}
use Rattle.ksi_schedule.specs.declared.actor.Actor.{Actor}
use Rattle.ksi_schedule.specs.declared.actor.Actor.TheVariants as actors
use Rattle.ksi_corenode.specs.SecondState.{SecondState, fresh_second}
use Rattle.ksi_corenode.specs.Rows.{restart_row}
use Rattle.ksi_aggregator.specs.Events.{event_second, round_row, MayTake}
use Rattle.ksi_aggregator.specs.Rows.{RoundState, fresh_round, round_restarted}
use Rattle.ksi_records.specs.Logs.{AggregatorAgrees, AggregatorStarts, AtAggregator, AtCore, CoreAgrees, CoreStarts, Deed, Said, core_after, core_says, core_turn, round_after, round_says}
use Rattle.ksi_records.specs.Texts.{said_text}
use Rattle.ksi_records.specs.declared.node.head.Given.{Given}
use Rattle.ksi_records.specs.declared.node.head.Given.TheVariants as given
use Rattle.ksi_records.specs.declared.node.head.Head.{Head}
use Rattle.ksi_records.specs.declared.node.head.Head.TheVariants as heads
use Rattle.ksi_records.specs.Node.Entries.{Entry}

-- what a node has of each second: a core its seconds, an aggregator its rounds
pub record NodeState : Type 0 where
  pub seconds : ℕ → SecondState
  pub rounds : ℕ → RoundState

abbrev pub number_of : Actor → ℕ
number_of (actors.Core j) = j
number_of (actors.Aggregator k) = k

-- before anything came
abbrev pub first_state : PlanState → (me : Actor) → NodeState
first_state plan me = record { seconds = λ t. fresh_second (number_of me) (core_plan_of plan) t; rounds = λ t. fresh_round }

-- after its process was started again
abbrev pub restarted : NodeState → NodeState
restarted it = record { seconds = λ t. restart_row (it.seconds t); rounds = λ t. round_restarted (it.rounds t) }

-- it was given to this node
abbrev pub IsTo : (me : Actor) → Given → Type 0
IsTo (actors.Core j) (given.ToCore i event) = i ≡ j
IsTo (actors.Aggregator k) (given.ToAggregator i event) = i ≡ k
IsTo _ _ = ⊥

abbrev pub IsOf : (me : Actor) → Head → Type 0
IsOf me (heads.Said it) = IsTo me it
IsOf me (heads.Unsaid it) = IsTo me it
IsOf me heads.Restarted = Unit {0}

-- the number of a request is new to the rounds, so that the node takes it
abbrev pub IsDue : NodeState → Given → Type 0
IsDue it (given.ToCore j event) = Unit {0}
IsDue it (given.ToAggregator k event) = MayTake it.rounds event

-- what a node took, with what it said to that
abbrev pub deed_with : Given → Said → Deed
deed_with (given.ToCore j event) said = AtCore j event said
deed_with (given.ToAggregator k event) said = AtAggregator k event said

abbrev pub start_of : (me : Actor) → Deed
start_of (actors.Core j) = CoreStarts j
start_of (actors.Aggregator k) = AggregatorStarts k

module _ (image : List ℕ → List ℕ) (plan : PlanState) where
  -- ---- a step

  -- what the node says to it
  abbrev pub said_to : NodeState → Given → Said
  said_to it (given.ToCore j event) = core_says image plan j it.seconds event
  said_to it (given.ToAggregator k event) = round_says image plan k it.rounds event

  -- it stores a fact
  abbrev pub stores : NodeState → Given → Bool
  stores it (given.ToCore j event) = is_some (core_turn image plan j it.seconds event).fact
  stores it (given.ToAggregator k event) = is_some (round_row image event (it.rounds (event_second event))).fact

  -- the node's block
  abbrev pub block_to : NodeState → Given → Text
  block_to it given = said_text (said_to it given) (stores it given)

  -- what it has then
  abbrev pub state_after : NodeState → Given → NodeState
  state_after it (given.ToCore j event) = record { seconds = core_after image plan j it.seconds event; rounds = it.rounds }
  state_after it (given.ToAggregator k event) = record { seconds = it.seconds; rounds = round_after image plan it.rounds event }

  abbrev pub state_behind : NodeState → Head → NodeState
  state_behind it (heads.Said given) = state_after it given
  state_behind it (heads.Unsaid given) = state_after it given
  state_behind it heads.Restarted = restarted it

  -- ---- an entry

  abbrev pub MayCome : NodeState → Head → Type 0
  MayCome it (heads.Said given) = IsDue it given
  MayCome it (heads.Unsaid given) = IsDue it given
  MayCome it heads.Restarted = Unit {0}

  -- the block is the node's; a step whose reply was lost has none
  abbrev pub IsTold : NodeState → Head → (block : Text) → Type 0
  IsTold it (heads.Said given) block = block ≡ block_to it given
  IsTold it (heads.Unsaid given) block = Unit {0}
  IsTold it heads.Restarted block = Unit {0}

  -- ---- a log

  -- all that the node said is what its rows say
  abbrev pub LogAgrees : (me : Actor) → NodeState → List Deed → Type 0
  LogAgrees (actors.Core j) it deeds = CoreAgrees image plan j it.seconds deeds
  LogAgrees (actors.Aggregator k) it deeds = AggregatorAgrees image plan k it.rounds deeds

-- an entry's text has the values of this deed
abbrev pub IsWritten : (me : Actor) → Head → (block : Text) → Deed → Type 0
IsWritten me (heads.Said given) block deed = (said : Said) × (stored : Bool) × (deed ≡ deed_with given said) × (block ≡ said_text said stored)
IsWritten me (heads.Unsaid given) block deed = (said : Said) × (deed ≡ deed_with given said)
IsWritten me heads.Restarted block deed = deed ≡ start_of me

-- one deed for each entry
abbrev pub AreWritten : (me : Actor) → List Entry → List Deed → Type 0
AreWritten me [] [] = Unit {0}
AreWritten me [] (deed ∷ deeds) = ⊥
AreWritten me (entry ∷ entries) [] = ⊥
AreWritten me (entry ∷ entries) (deed ∷ deeds) = IsWritten me entry.head entry.block deed × AreWritten me entries deeds
