-- The compaction of a core's file.
use Rattle.std.specs.Prelude.{◌≡◌, ℕ, ◌≤◌, List, length, None, Result, Ok, Err}
use Rattle.ksi_ports.specs.Outside.{Raises}
use Rattle.ksi_synod.specs.CorePlans.{CorePlanState}
use Rattle.ksi_corenode.specs.declared.fact.Fact.{Fact}
use Rattle.ksi_corenode.specs.Lawful.{stored_by}
use Rattle.ksi_nodestore.specs.Opens.{CountsReads, IsRefused}
use Rattle.ksi_nodestore.specs.Stores.{IsFileOf}
use Rattle.ksi_laws_forgetting.specs.Left.{AreHeld, left_of}
use Rattle.ksi_forgetting.specs.declared.forgotten.Forgotten.{Forgotten}
use Rattle.ksi_forgetting.specs.declared.forgotten.ForgetRefusal.{ForgetRefusal}
use Rattle.ksi_forgetting.specs.declared.forgotten.ForgetRefusal.TheVariants.{Old, New}
use Rattle.ksi_forgetting.specs.declared.left.Left.{Left}
use Rattle.ksi_forgetting.specs.Puts.{is_early}

-- A file of facts, and one of the facts left if all seconds before a horizon are forgotten. A root is held for each of these.
-- Each file has as many records as facts.
pub record IsFileLeft (me : ℕ) (plan : CorePlanState) (horizon : ℕ) (old new : List ℕ) (records left : ℕ) : Type 0 where
  pub facts : List Fact
  pub held : AreHeld (is_early plan.start horizon) facts
  pub old_file : IsFileOf me plan facts old
  pub new_file : IsFileOf me plan (left_of (is_early plan.start horizon) facts) new
  pub counted : records ≡ length facts
  pub counted_left : left ≡ length (left_of (is_early plan.start horizon) facts)

-- the new file has the facts left of the old one; or the reason for a refusal: the old file is refused as on opening
abbrev pub ForgetsAs : {D : Type 0} → (me : ℕ) → CorePlanState → (before : ℕ) → (old new : List ℕ) → Result (Forgotten D) (ForgetRefusal × D) → Type 0
ForgetsAs me plan before old new (Ok forgotten) = IsFileLeft me plan forgotten.horizon old new forgotten.records forgotten.left × (forgotten.horizon ≤ before)
ForgetsAs me plan before old new (Err (Old refusal, disk)) = IsRefused me plan old refusal
ForgetsAs me plan before old new (Err (New, disk)) = Unit {0}

-- a file of facts by which no root is held for this second
abbrev pub IsNotHeld : (me : ℕ) → CorePlanState → (file : List ℕ) → (second : ℕ) → Type 0
IsNotHeld me plan file second = (facts : List Fact) × IsFileOf me plan facts file × ((stored_by facts second).held ≡ None)

-- the counts of faults of both disks: that of the disk that failed rises, and the other is unchanged
abbrev pub ForgetCounts : {D : Type 0} → (faults : D → ℕ) → (old fresh_old fresh_new : ℕ) → Result (Forgotten D) (ForgetRefusal × D) → Type 0
ForgetCounts faults old fresh_old fresh_new (Ok forgotten) = (faults forgotten.disk ≡ old) × (fresh_new ≡ fresh_old)
ForgetCounts faults old fresh_old fresh_new (Err (Old refusal, disk)) = CountsReads {T = Unit {0}} old (faults disk) (Err refusal) × (fresh_new ≡ fresh_old)
ForgetCounts faults old fresh_old fresh_new (Err (New, disk)) = (faults disk ≡ old) × Raises fresh_old fresh_new

-- the old disk, in the result or returned with the refusal
abbrev pub disk_after : {D : Type 0} → Result (Forgotten D) (ForgetRefusal × D) → D
disk_after (Ok forgotten) = forgotten.disk
disk_after (Err refused) = refused.1

-- ---- in the code

-- a file of facts by which all seconds before the horizon are held
pub record IsHeldFile (me : ℕ) (plan : CorePlanState) (horizon : ℕ) (file : List ℕ) : Type 0 where
  pub facts : List Fact
  pub of : IsFileOf me plan facts file
  pub held : AreHeld (is_early plan.start horizon) facts

-- the text is the file of the facts left of a file
abbrev pub LeavesText : (me : ℕ) → CorePlanState → (horizon : ℕ) → (file : List ℕ) → Left → Type 0
LeavesText me plan horizon file left = IsFileLeft me plan horizon file left.text.items left.records left.left
