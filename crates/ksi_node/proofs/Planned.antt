-- The plan of a file that was loaded.
use Rattle.std.proofs.Common.{◌≡◌, ◌≤◌, ℕ, length, inr, Option, Some, Result, Ok, Err}
use Rattle.ksi_imprint.specs.declared.refused.Refused.TheVariants as refused
use Rattle.ksi_schedule.specs.Pieces.{Text}
use Rattle.ksi_schedule.specs.Reading.{Fault}
use Rattle.ksi_schedule.specs.Spelled.{IsScheduleFault, Tells}
use Rattle.ksi_schedule.specs.declared.fault.ScheduleFault.{ScheduleFault}
use Rattle.ksi_schedule.specs.declared.fault.ScheduleFault.TheVariants as schedule_faults
use Rattle.ksi_schedule.specs.Plans.{PlanState}
use Rattle.ksi_node.specs.declared.failure.Failure.{Failure}
use Rattle.ksi_node.specs.declared.failure.Failure.TheVariants.{Words, Plan, Node, File, Disk, Memory, Stream}
use Rattle.ksi_node.specs.Program.{most_plan, IsPlanOf, PlanIn}

pub told : (held : Option Text) (text : Text) (old new : ℕ) (result : Result PlanState Failure) → (held ≡ Some text) × (length text ≤ most_plan) → PlanIn text result → IsPlanOf held old new result
told held text old new (Ok plan) load is = (text, is.0, load.0, is.1, is.2)
told held text old new (Err Words) load is = absurd is
told held text old new (Err Plan) load is = inr (text, load.0, inr is)
told held text old new (Err Node) load is = absurd is
told held text old new (Err File) load is = absurd is
told held text old new (Err Disk) load is = absurd is
told held text old new (Err Memory) load is = tt
told held text old new (Err Stream) load is = absurd is

pub fault_in : (text : Text) (fault : ScheduleFault) → Tells text (Err (refused.Fault fault)) → (found : Fault) × IsScheduleFault text found.0 found.1
fault_in text (schedule_faults.Line fault n) is = ((fault, n), is)
