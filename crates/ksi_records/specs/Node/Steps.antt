-- What the code says of its steps: of what it reads, and of what it holds against the node.
use Rattle.std.specs.Borrow.{Bor}
use Rattle.std.specs.Prelude.{◌≡◌, ◌<◌, ℕ, List, [], Bool, true, false, length, Option, Some, None, IfSome}
use Rattle.std.specs.Io.KnownBytes.{Consumes}
use Rattle.ksi_records.specs.Blocks.{IsCutBlock}
use Rattle.ksi_schedule.specs.Pieces.{Text}
use Rattle.ksi_schedule.specs.Plans.{PlanState, core_plan_of}
use Rattle.ksi_schedule.specs.declared.actor.Actor.{Actor}
use Rattle.ksi_schedule.specs.declared.actor.Actor.TheVariants as actors
use Rattle.ksi_corenode.specs.CoreState.{CoreState, state_of}
use Rattle.ksi_corenode.specs.Events.{event_second, IsAsked, MayTake}
use Rattle.ksi_aggregator.specs.Rounds.{rounds_of}
use Rattle.ksi_wire.specs.RoundLines.{FitsRound}
use Rattle.ksi_records.specs.declared.node.entry.Next.{Next}
use Rattle.ksi_records.specs.declared.node.entry.Next.TheVariants as nexts
use Rattle.ksi_records.specs.declared.node.head.Given.{Given}
use Rattle.ksi_records.specs.declared.node.head.Given.TheVariants as given
use Rattle.ksi_records.specs.declared.node.head.Head.{Head}
use Rattle.ksi_records.specs.declared.node.head.Head.TheVariants as heads
use Rattle.ksi_records.specs.declared.node.runs.Held.{Held}
use Rattle.ksi_records.specs.declared.node.runs.Held.TheVariants as helds
use Rattle.ksi_records.specs.declared.node.runs.Node.{Node}
use Rattle.ksi_records.specs.declared.node.runs.Node.TheVariants as nodes
use Rattle.ksi_records.specs.Node.Entries.{HasBlock, WantsBlock}
use Rattle.ksi_records.specs.Node.Runs.{NodeState, block_to, state_after, state_behind, IsDue, IsTold, MayCome}
use Rattle.ksi_records.specs.Node.Verdicts.{StandsIn, Whole}
use Rattle.ksi_records.specs.Node.Verdicts as verdicts

-- ---- the node

-- it is one of the plan
abbrev pub IsThere : PlanState → (me : Actor) → Type 0
IsThere plan (actors.Core j) = j < plan.cores
IsThere plan (actors.Aggregator k) = k < length plan.parents

-- core j of the plan has this
pub record IsCoreAt (plan : PlanState) (j : ℕ) (core : CoreState) (it : NodeState) : Type 0 where
  pub me : core.me ≡ j
  pub of_plan : core.plan ≡ core_plan_of plan
  pub start : core.start ≡ plan.start
  pub seconds : state_of core ≡ it.seconds

-- the node of the plan has this
abbrev pub IsAt : {C : Type 0} → PlanState → (me : Actor) → Node C → NodeState → Type 0
IsAt plan (actors.Core j) (nodes.Core core) it = IsCoreAt plan j core it
IsAt plan (actors.Aggregator k) (nodes.Aggregator a) it = (a.me ≡ k) × (rounds_of a ≡ it.rounds)
IsAt plan _ _ it = ⊥

-- it is the node of the plan, whatever it has
abbrev pub IsNode : {C : Type 0} → PlanState → (me : Actor) → Node C → Type 0
IsNode plan me node = (it : NodeState) × IsAt plan me node it

-- it is for this node, which may take it
abbrev pub Fits : PlanState → (me : Actor) → Given → Type 0
Fits plan (actors.Core j) (given.ToCore i event) = (i ≡ j) × ((core : CoreState) → core.start ≡ plan.start → MayTake core event × IsAsked core (event_second event))
Fits plan (actors.Aggregator k) (given.ToAggregator i event) = (i ≡ k) × FitsRound event
Fits plan _ _ = ⊥

abbrev pub FitsHead : PlanState → (me : Actor) → Head → Type 0
FitsHead plan me (heads.Said it) = Fits plan me it
FitsHead plan me (heads.Unsaid it) = Fits plan me it
FitsHead plan me heads.Restarted = Unit {0}

-- ---- reading

-- what follows a beginning
abbrev pub IsBehind : (expected : Option Text) → Option (Bor Text) → Type 0
IsBehind expected (Some rest) = expected ≡ Some rest.now
IsBehind expected None = expected ≡ None

abbrev pub IsBlockBehind : Head → (old new : Option Text) → (block : Text) → Bool → Type 0
IsBlockBehind head old new block true = Consumes old new block × HasBlock head block
IsBlockBehind head old new block false = WantsBlock head × IfSome old IsCutBlock

module _ (plan : PlanState) (me : Actor) where
  -- a whole entry, and what is left is what follows it
  abbrev pub IsWhole : (bytes : Text) → (new : Option Text) → (line : Text) → Head → (block : Text) → Type 0
  IsWhole bytes None line head block = ⊥
  IsWhole bytes (Some more) line head block = StandsIn plan me bytes (Whole (record { line = line; head = head; block = block }) more)

  abbrev pub IsNext : (old new : Option Text) → (line block : Text) → Next → Type 0
  IsNext old new line block (nexts.Entry head) = IfSome old (λ bytes. IsWhole bytes new line head block)
  IsNext old new line block (nexts.Refused fault) = IfSome old (λ bytes. StandsIn plan me bytes (verdicts.Refused fault))
  IsNext old new line block nexts.End = IfSome old (λ bytes. bytes ≡ [])

  abbrev pub FitsNext : Next → Type 0
  FitsNext (nexts.Entry head) = FitsHead plan me head
  FitsNext (nexts.Refused fault) = Unit {0}
  FitsNext nexts.End = Unit {0}

-- ---- comparing

module _ (image : List ℕ → List ℕ) (plan : PlanState) (me : Actor) where
  -- what the node said, or nothing where it does not take it
  abbrev pub IsSaid : {C : Type 0} → NodeState → Given → (new : Node C) → Option Text → Type 0
  IsSaid it given new None = ¬ IsDue it given
  IsSaid it given new (Some text) = IsDue it given × (text ≡ block_to image plan it given) × IsAt plan me new (state_after image plan it given)

  abbrev pub IsHeld : {C : Type 0} → NodeState → Head → (block : Text) → (new : Node C) → Held → Type 0
  IsHeld it head block new helds.Told = MayCome image plan it head × IsTold image plan it head block × IsAt plan me new (state_behind image plan it head)
  IsHeld it head block new helds.Differs = MayCome image plan it head × (¬ IsTold image plan it head block)
  IsHeld it head block new helds.Taken = ¬ MayCome image plan it head
