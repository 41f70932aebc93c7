-- The state of a core as its contracts describe it: each of its seconds.
use Rattle.std.specs.Prelude.{◌≡◌, ℕ, ◌==◌, if◌then◌else◌, List, option_map}
use Rattle.ksi_aggtree.specs.declared.entries.Entry.{Entry}
use Rattle.ksi_corenode.specs.declared.stable.StablePart.{StablePart}
use Rattle.ksi_corenode.specs.declared.step.Step.{Step}
use Rattle.ksi_synod.specs.CorePlans.{CorePlanState, voters_of}
use Rattle.ksi_corenode.specs.SecondState.{SecondState}
use Rattle.ksi_corenode.specs.Stored.{VolatileState, part_at, volatile_at, second_of}
use Rattle.ksi_calendar.specs.Covered.{Roots}
use Rattle.ksi_corenode.specs.Turns.{Turn}
use Rattle.ksi_corenode.specs.Facts.{fact_of}

-- its number, the plan of the cores, the first second, how many of the first settled seconds are stored as bare roots, the
-- stable parts of the settled seconds and of the unsettled ones, all sealed items, and the volatile parts
pub record CoreState : Type 0 where
  pub me : ℕ
  pub plan : CorePlanState
  pub start : ℕ
  pub bare : ℕ
  pub settled : List StablePart
  pub unsettled : List (ℕ × StablePart)
  pub items : List Entry
  pub volatile_parts : List (ℕ × VolatileState)

-- the stable part of a second
abbrev pub stable_at : CoreState → (second : ℕ) → StablePart
stable_at core second = part_at core.start core.settled core.unsettled second

-- the state of a second; of a second without events, the fresh state
unfoldable pub state_of : CoreState → (second : ℕ) → SecondState
state_of core second = second_of core.me (voters_of core.plan second) core.items (stable_at core second) (volatile_at core.volatile_parts second)

-- the root that the core holds for each second
abbrev pub held_by : CoreState → Roots
held_by core second = (state_of core second).vote.held

-- the core is unchanged
pub record IsSame (old new : CoreState) : Type 0 where
  pub me : new.me ≡ old.me
  pub plan : new.plan ≡ old.plan
  pub start : new.start ≡ old.start
  pub seconds : (t : ℕ) → state_of new t ≡ state_of old t

-- one second changed, and nothing else
pub record IsChange (old new : CoreState) (second : ℕ) (after : SecondState) : Type 0 where
  pub me : new.me ≡ old.me
  pub plan : new.plan ≡ old.plan
  pub start : new.start ≡ old.start
  pub seconds : (t : ℕ) → state_of new t ≡ (if t == second then after else state_of old t)

-- the step is this turn of the second, and nothing else changed
pub record IsTurn (old new : CoreState) (second : ℕ) (turn : Turn) (step : Step) : Type 0 where
  pub me : new.me ≡ old.me
  pub plan : new.plan ≡ old.plan
  pub start : new.start ≡ old.start
  pub seconds : (t : ℕ) → state_of new t ≡ (if t == second then turn.after else state_of old t)
  pub answer : step.answer ≡ turn.answer
  pub fact : step.fact ≡ option_map (fact_of second) turn.fact
  pub sends : step.sends ≡ turn.sends
