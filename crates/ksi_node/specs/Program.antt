-- The plan's file of a node program, its exit status and its last line.
use Rattle.std.specs.Prelude.{◌≡◌, ◌⊎◌, ◌<◌, ◌++◌, ℕ, [], ◌∷◌, length, codes, Option, Some, Result, Ok, Err}
use Rattle.ksi_ports.specs.Outside.{ExtendsByFront, Raises, count_up}
use Rattle.ksi_schedule.specs.Events.{History}
use Rattle.ksi_schedule.specs.Pieces.{Text}
use Rattle.ksi_schedule.specs.Plans.{PlanState}
use Rattle.ksi_schedule.specs.Printed.{text_of_lines}
use Rattle.ksi_schedule.specs.Spelled.{IsScheduleText, IsScheduleFault}
use Rattle.ksi_schedule.specs.Reading.{Fault}
use Rattle.ksi_node.specs.declared.failure.Failure.{Failure}
use Rattle.ksi_node.specs.declared.failure.Failure.TheVariants.{Words, Plan, Node, File, Disk, Memory, Stream}
use Rattle.ksi_node.specs.Failures.{failure_word}

-- how many bytes a plan's file may have
abbrev pub most_plan : ℕ
most_plan = 67108864

-- the bytes are too many, or not a schedule
abbrev pub HasNoPlan : Text → Type 0
HasNoPlan text = (most_plan < length text) ⊎ ((fault : Fault) × IsScheduleFault text fault.0 fault.1)

-- The result of reading the plan from a file, by its content and the count of failed loads: the plan of the schedule that
-- the content is. It is refused if the load failed or the content has no plan. Memory may run out.
abbrev pub IsPlanOf : (held : Option Text) → (old new : ℕ) → Result PlanState Failure → Type 0
IsPlanOf held old new (Ok plan) = (text : Text) × (schedule : History) × (held ≡ Some text) × IsScheduleText text schedule × (plan ≡ schedule.plan)
IsPlanOf held old new (Err Words) = ⊥
IsPlanOf held old new (Err Plan) = Raises old new ⊎ ((text : Text) × (held ≡ Some text) × HasNoPlan text)
IsPlanOf held old new (Err Node) = ⊥
IsPlanOf held old new (Err File) = ⊥
IsPlanOf held old new (Err Disk) = ⊥
IsPlanOf held old new (Err Memory) = Unit {0}
IsPlanOf held old new (Err Stream) = ⊥

-- the same by the bytes themselves
abbrev pub PlanIn : Text → Result PlanState Failure → Type 0
PlanIn text (Ok plan) = (schedule : History) × IsScheduleText text schedule × (plan ≡ schedule.plan)
PlanIn text (Err Words) = ⊥
PlanIn text (Err Plan) = (fault : Fault) × IsScheduleFault text fault.0 fault.1
PlanIn text (Err Node) = ⊥
PlanIn text (Err File) = ⊥
PlanIn text (Err Disk) = ⊥
PlanIn text (Err Memory) = Unit {0}
PlanIn text (Err Stream) = ⊥

-- ---- the end

-- 0 at the end of the input, 1 after a failure
abbrev pub status_of : Result (Unit {0}) Failure → ℕ
status_of (Ok u) = 0
status_of (Err failure) = 1

-- the last line after a failure
abbrev pub failed_text : Failure → Text
failed_text failure = text_of_lines ((codes "failed" ∷ failure_word failure ∷ []) ∷ [])

-- the output after the end: its last line is the failure's, or the put failed and a prefix of the line went out
abbrev pub IsEnded : Result (Unit {0}) Failure → (old new : Text) → (old_faults new_faults : ℕ) → Type 0
IsEnded (Ok u) old new old_faults new_faults = new ≡ old
IsEnded (Err failure) old new old_faults new_faults =
    (new ≡ old ++ failed_text failure) ⊎ (Raises old_faults new_faults × ExtendsByFront old (failed_text failure) new)

-- one put after a failure
abbrev pub puts_of : Result (Unit {0}) Failure → ℕ → ℕ
puts_of (Ok u) puts = puts
puts_of (Err failure) puts = count_up 1 puts
