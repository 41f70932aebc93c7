-- The compaction of an aggregator's file.
use Rattle.std.specs.Prelude.{◌≡◌, ℕ, List, length, Option, Result, Ok, Err}
use Rattle.ksi_ports.specs.Outside.{Raises}
use Rattle.ksi_disk.specs.Costs.{Meter, Spends}
use Rattle.ksi_schedule.specs.Plans.{PlanState}
use Rattle.ksi_aggregator.specs.declared.fact.Fact.{Fact}
use Rattle.ksi_roundstore.specs.Opens.{CountsReads, IsRefused}
use Rattle.ksi_roundstore.specs.Stores.{IsFileOf}
use Rattle.ksi_roundstore.specs.declared.refusal.ForgetRefusal.{ForgetRefusal}
use Rattle.ksi_roundstore.specs.declared.refusal.ForgetRefusal.TheVariants.{Old, New}
use Rattle.ksi_roundstore.specs.declared.forgotten.Forgotten.{Forgotten}
use Rattle.ksi_roundstore.specs.declared.left.Left.{Left}
use Rattle.ksi_roundstore.specs.Left.{left_before}

-- a file of facts, and one of the facts left; each has as many records as facts
pub record IsFileLeft (me : ℕ) (plan : PlanState) (before : ℕ) (old new : List ℕ) (records left : ℕ) : Type 0 where
  pub facts : List Fact
  pub old_file : IsFileOf me plan facts old
  pub new_file : IsFileOf me plan (left_before before facts) new
  pub counted : records ≡ length facts
  pub counted_left : left ≡ length (left_before before facts)

-- the new file has the facts left of the old one; or the reason for a refusal: the old file is refused as on opening
abbrev pub ForgetsAs : {D : Type 0} → (me : ℕ) → PlanState → (before : ℕ) → (old new : List ℕ) → Result (Forgotten D) (ForgetRefusal × D) → Type 0
ForgetsAs me plan before old new (Ok forgotten) = IsFileLeft me plan before old new forgotten.records forgotten.left
ForgetsAs me plan before old new (Err (Old refusal, disk)) = IsRefused me plan old refusal
ForgetsAs me plan before old new (Err (New, disk)) = Unit {0}

-- the counts of faults of both disks: that of the disk that failed rises, and the other is unchanged
abbrev pub ForgetCounts : {D : Type 0} → (faults : D → ℕ) → (old fresh_old fresh_new : ℕ) → Result (Forgotten D) (ForgetRefusal × D) → Type 0
ForgetCounts faults old fresh_old fresh_new (Ok forgotten) = (faults forgotten.disk ≡ old) × (fresh_new ≡ fresh_old)
ForgetCounts faults old fresh_old fresh_new (Err (Old refusal, disk)) = CountsReads {T = Unit {0}} old (faults disk) (Err refusal) × (fresh_new ≡ fresh_old)
ForgetCounts faults old fresh_old fresh_new (Err (New, disk)) = (faults disk ≡ old) × Raises fresh_old fresh_new

-- what forgetting takes of the new disk: one write of its whole content and one sync; no more if one of them failed; and nothing
-- if the old file was refused
abbrev pub NewCosts : {D : Type 0} → (old new : Option Meter) → (content : List ℕ) → Result (Forgotten D) (ForgetRefusal × D) → Type 0
NewCosts old new content (Ok forgotten) = Spends (length content) 2 old new
NewCosts old new content (Err (Old refusal, disk)) = new ≡ old
NewCosts old new content (Err (New, disk)) = (bytes : ℕ) × Spends bytes 2 old new

-- the old disk, in the result or returned with the refusal
abbrev pub disk_after : {D : Type 0} → Result (Forgotten D) (ForgetRefusal × D) → D
disk_after (Ok forgotten) = forgotten.disk
disk_after (Err refused) = refused.1

-- ---- in the code

-- the text is the file of the facts left of a file
abbrev pub LeavesText : (me : ℕ) → PlanState → (before : ℕ) → (file : List ℕ) → Left → Type 0
LeavesText me plan before file left = IsFileLeft me plan before file left.text.items left.records left.left
