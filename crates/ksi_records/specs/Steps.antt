-- What the code says of its steps: of what it reads, and of what it holds against the world.
use Rattle.std.specs.Prelude.{◌≡◌, ℕ, List, [], Bool, true, false, Option, Some, None, IfSome}
use Rattle.std.specs.Io.KnownBytes.{Appends, Consumes}
use Rattle.ksi_imprint.specs.declared.refused.Refused.{Refused}
use Rattle.ksi_imprint.specs.declared.refused.Refused.TheVariants as refusals
use Rattle.ksi_schedule.specs.Pieces.{Text}
use Rattle.ksi_schedule.specs.Plans.{PlanState}
use Rattle.ksi_schedule.specs.declared.event.Event.{Event}
use Rattle.ksi_records.specs.declared.fault.RecordFault.{RecordFault}
use Rattle.ksi_records.specs.declared.head.Head.{Head}
use Rattle.ksi_records.specs.declared.head.Head.TheVariants as heads
use Rattle.ksi_records.specs.declared.entry.Next.{Next}
use Rattle.ksi_records.specs.declared.entry.Next.TheVariants as nexts
use Rattle.ksi_records.specs.declared.tracer.Told.{Told}
use Rattle.ksi_records.specs.declared.tracer.Told.TheVariants as tolds
use Rattle.ksi_records.specs.declared.blocks.place.Place.{Place}
use Rattle.ksi_records.specs.declared.verdict.Retraced.{Retraced}
use Rattle.ksi_records.specs.declared.verdict.Retraced.TheVariants as retraced
use Rattle.ksi_records.specs.declared.version.Version.{Version}
use Rattle.ksi_records.specs.Blocks.{IsCutBlock}
use Rattle.ksi_records.specs.Heads.{came_in}
use Rattle.ksi_records.specs.Entries.{IsHead, HasBlock, WantsBlock}
use Rattle.ksi_records.specs.Told.{unsaid_block, IsTold, IsMissing, MayCome}
use Rattle.ksi_records.specs.Verdicts.{shown_block, is_unsaid, StandsIn, Whole}
use Rattle.ksi_records.specs.Verdicts as verdicts

-- ---- reading

abbrev pub IsBlockBehind : Head → (old new : Option Text) → (block : Text) → Bool → Type 0
IsBlockBehind head old new block true = Consumes old new block × HasBlock head block
IsBlockBehind head old new block false = WantsBlock head × IfSome old IsCutBlock

-- a whole entry, and what is left is what follows it
abbrev pub IsWhole : PlanState → Version → (bytes : Text) → (new : Option Text) → Head → (came block : Text) → Type 0
IsWhole plan version bytes None head came block = ⊥
IsWhole plan version bytes (Some more) head came block = StandsIn plan version bytes (Whole (record { head = head; came = came; block = block }) more)

-- the first line of an entry is this one
abbrev pub IsNext : PlanState → Version → (old new : Option Text) → (line block : Text) → Next → Type 0
IsNext plan version old new line block (nexts.Entry head) = IfSome old (λ bytes. IsWhole plan version bytes new head (came_in version line) block)
IsNext plan version old new line block (nexts.Refused fault) = IfSome old (λ bytes. StandsIn plan version bytes (verdicts.Refused fault))
IsNext plan version old new line block nexts.End = IfSome old (λ bytes. bytes ≡ [])

-- what its head names is the plan's
abbrev pub IsThere : PlanState → Next → Type 0
IsThere plan (nexts.Entry head) = IsHead plan head
IsThere plan (nexts.Refused fault) = Unit {0}
IsThere plan nexts.End = Unit {0}

-- ---- comparing

-- why an entry is refused, unless memory ran out
abbrev pub IsRefusal : (RecordFault → Type 0) → Refused RecordFault → Type 0
IsRefusal P (refusals.Fault fault) = P fault
IsRefusal P refusals.NoMemory = Unit {0}

module _ (image : List ℕ → List ℕ) (plan : PlanState) where
  abbrev pub IsUnsaidBlock : List Event → Head → Text → Type 0
  IsUnsaidBlock es (heads.Unsaid it) text = text ≡ unsaid_block image plan es it
  IsUnsaidBlock es _ text = ⊥

  abbrev pub IsAnswer : Version → List Event → Head → (came block : Text) → Told → Type 0
  IsAnswer version es head came block tolds.Agrees = IsTold image plan version es head came block × (is_unsaid head ≡ false)
  IsAnswer version es head came block (tolds.Unsaid text) = IsTold image plan version es head came block × IsUnsaidBlock es head text
  IsAnswer version es head came block tolds.Differs = MayCome image plan es head × (¬ IsTold image plan version es head came block)

  -- the place and the block of a step whose reply was lost are shown
  abbrev pub IsShown : List Event → Place → Head → (old new : Option Text) → Type 0
  IsShown es place (heads.Unsaid it) old new = Appends old new (shown_block place (unsaid_block image plan es it))
  IsShown es place _ old new = Appends old new []

  -- nothing: the entry agrees; else the verdict at its place
  abbrev pub IsHeld : Version → List Event → Place → Head → (came block : Text) → (old new : Option Text) → Option Retraced → Type 0
  IsHeld version es place head came block old new None = IsTold image plan version es head came block × IsShown es place head old new
  IsHeld version es place head came block old new (Some (retraced.Agrees counts)) = ⊥
  IsHeld version es place head came block old new (Some (retraced.Differs at)) =
      (at ≡ place) × MayCome image plan es head × (¬ IsTold image plan version es head came block) × Appends old new []
  IsHeld version es place head came block old new (Some (retraced.Refused fault at)) = (at ≡ place) × IsMissing image plan es head fault × Appends old new []
