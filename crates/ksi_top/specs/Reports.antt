-- Reports, and how one follows from what was read.
use Rattle.std.specs.Prelude.{◌≡◌, ◌≢◌, ℕ, ◌+◌, ◌<◌, List, Option, Some, None, Result, Ok, Err}
use Rattle.std.specs.declared.alloc.AllocError.{AllocError}
use Rattle.ksi_ports.specs.Stored.{Held}
use Rattle.ksi_top.specs.declared.report.Report.{Report}
use Rattle.ksi_top.specs.declared.report.Halt.{Halt}
use Rattle.ksi_top.specs.declared.report.Halt.TheVariants.{Reported, Fault, NoMemory}
use Rattle.ksi_top.specs.declared.status.Status.{Status}
use Rattle.ksi_top.specs.declared.status.Status.TheVariants.{Done, Malformed, TooLong}

-- a status and a line, and nothing to save
abbrev pub report : Status → List ℕ → Report
report status line = record { status = status; line = line; saved = None }

-- the result's line, and a file to save
abbrev pub saving : List ℕ → List ℕ → List ℕ → Report
saving line name bytes = record { status = Done; line = line; saved = Some (name, bytes) }

-- how often a run saves
abbrev pub saves_of : Option (List ℕ × List ℕ) → ℕ
saves_of None = 0
saves_of (Some file) = 1

-- ---- what a run reports, and how many files it loads

pub record Ran : Type 0 where
  pub reported : Report
  pub loads : ℕ

-- a report, without a further load
abbrev pub ends : Report → Ran
ends report = record { reported = report; loads = 0 }

abbrev pub reported_behind : {T : Type 0} → Result T Report → (T → Ran) → Report
reported_behind (Ok value) next = (next value).reported
reported_behind (Err report) next = report

abbrev pub loads_behind : {T : Type 0} → Result T Report → (T → Ran) → ℕ
loads_behind (Ok value) next = (next value).loads
loads_behind (Err report) next = 0

-- A file is loaded: the consequence of the value that was read from it, or the report that replaces it and ends the run.
abbrev pub behind : {T : Type 0} → Result T Report → (T → Ran) → Ran
behind expected next = record { reported = reported_behind expected next; loads = 1 + loads_behind expected next }

-- A command: the files that it loads, in this order, each given by its word and its limit in bytes; the most saves; its
-- report and how many files it loads, as functions of the contents; and the meaning of its report.
pub record CommandRow : Type 1 where
  pub files : List (ℕ × ℕ)
  pub saves : ℕ
  pub ran : Held → Ran
  pub means : Held → Report → Type 0

-- the result of reading, or the report that replaces it
abbrev pub and_then : {T U : Type 0} → Result T Report → (T → Result U Report) → Result U Report
and_then (Ok value) next = next value
and_then (Err report) next = Err report

-- ---- what a call gives

-- the expected result, or the run ended by a fault or out of memory
abbrev pub Gives : {T : Type 0} → Result T Report → Result T Halt → Type 0
Gives expected (Ok value) = expected ≡ Ok value
Gives expected (Err (Reported report)) = expected ≡ Err report
Gives expected (Err Fault) = Unit {0}
Gives expected (Err NoMemory) = Unit {0}

-- the same of a call whose value is the report itself
abbrev pub Reports : Report → Result Report Halt → Type 0
Reports expected (Ok report) = report ≡ expected
Reports expected (Err (Reported report)) = report ≡ expected
Reports expected (Err Fault) = Unit {0}
Reports expected (Err NoMemory) = Unit {0}

-- what was computed of loaded values, as the end of a run
abbrev pub ended : Result Report AllocError → Result Report Halt
ended (Ok report) = Ok report
ended (Err none) = Err NoMemory

-- a report that a call may end with is of a file that is not in its grammar, and saves nothing
abbrev pub HaltsMalformed : {T : Type 0} → Result T Halt → Type 0
HaltsMalformed (Ok value) = Unit {0}
HaltsMalformed (Err (Reported report)) = (report.status ≡ Malformed) × (report.saved ≡ None)
HaltsMalformed (Err Fault) = ⊥
HaltsMalformed (Err NoMemory) = Unit {0}

-- the meaning of a report, for a call that returns one unless it ends by a fault or out of memory
abbrev pub Means : (Report → Type 0) → Result Report Halt → Type 0
Means P (Ok report) = P report
Means P (Err (Reported report)) = P report
Means P (Err Fault) = Unit {0}
Means P (Err NoMemory) = Unit {0}

-- what a report means where all files were read: none passed its limit or was malformed
abbrev pub WhereRead : (Report → Type 0) → Report → Type 0
WhereRead P report = report.status ≢ TooLong → report.status ≢ Malformed → P report

-- nothing further is said of a report
abbrev pub Nothing : Report → Type 0
Nothing report = Unit {0}

-- the report that replaces a value is that of a file that exceeds its limit
abbrev pub IsTooLong : {T : Type 0} → Result T Report → Type 0
IsTooLong (Ok value) = ⊥
IsTooLong (Err report) = report.status ≡ TooLong

-- A file that was loaded and is too long is never reported as out of memory: if the run should report such a file and ends
-- out of memory, fewer loads were made than the run makes, so not that file's.
abbrev pub Unloaded : Ran → (before now : ℕ) → Result Report Halt → Type 0
Unloaded ran before now result = result ≡ Err NoMemory → ran.reported.status ≡ TooLong → now < before + ran.loads
