-- When a call over files may report each status, even if nothing is known of their contents: `LoadCaused` is of one file
-- that is loaded and read, `ReportCaused` of a command; the others are their parts by status.
use Rattle.std.specs.Prelude.{◌≡◌, ◌⊎◌, ℕ, ◌+◌, ◌<◌, ◌≤◌, List, Option, None, Some, Result, Ok, Err, slice_get}
use Rattle.ksi_ports.specs.Outside.{count_up, Raises, RoseBy}
use Rattle.ksi_ports.specs.declared.files.Files as files
use Rattle.ksi_top.specs.Loading.{too_long_line}
use Rattle.ksi_top.specs.declared.report.Report.{Report}
use Rattle.ksi_top.specs.declared.report.Halt.{Halt}
use Rattle.ksi_top.specs.declared.report.Halt.TheVariants as halts
use Rattle.ksi_top.specs.declared.status.Status.{Status}
use Rattle.ksi_top.specs.declared.status.Status.TheVariants.{Done, Refused, Words, Malformed, Fault, NoMemory, Clash, TooLong}

-- the counts of files at a moment: how often they were called on, how often a file was saved, how often a call failed and how
-- often a load did, how many bytes were taken, and how many of them by the last load
pub record Counts : Type 0 where
  pub calls : ℕ
  pub saves : ℕ
  pub faults : ℕ
  pub load_faults : ℕ
  pub taken : ℕ
  pub last_taken : ℕ

abbrev pub counts : (calls saves faults load_faults taken last_taken : ℕ) → Counts
counts calls saves faults load_faults taken last_taken = record { calls = calls; saves = saves; faults = faults; load_faults = load_faults; taken = taken; last_taken = last_taken }

-- those of files of any kind
abbrev pub counts_of : {F : Type 0} → files.Ghosts F → F → Counts
counts_of kind it = counts (kind.calls it) (kind.saves it) (kind.faults it) (kind.load_faults it) (kind.taken it) (kind.last_taken it)

-- no call failed, and nothing was saved
pub record Quiet (before now : Counts) : Type 0 where
  pub faults : now.faults ≡ before.faults
  pub load_faults : now.load_faults ≡ before.load_faults
  pub saves : now.saves ≡ before.saves
  pub taken : before.taken ≤ now.taken

-- a load failed, and nothing was saved
pub record Faulty (before now : Counts) : Type 0 where
  pub faults : Raises before.faults now.faults
  pub load_faults : Raises before.load_faults now.load_faults
  pub saves : now.saves ≡ before.saves
  pub taken : before.taken ≤ now.taken

-- one load did not fail
pub record Loaded (before now : Counts) : Type 0 where
  pub quiet : Quiet before now
  pub called : now.calls ≡ count_up 1 before.calls

-- ---- reports of what was read

-- a status that what was read is the cause of; only a result is saved
abbrev pub JudgedAs : Status → Option (List ℕ × List ℕ) → Type 0
JudgedAs Done saved = Unit {0}
JudgedAs Refused saved = saved ≡ None
JudgedAs Words saved = ⊥
JudgedAs Malformed saved = saved ≡ None
JudgedAs Fault saved = ⊥
JudgedAs NoMemory saved = ⊥
JudgedAs Clash saved = saved ≡ None
JudgedAs TooLong saved = ⊥

abbrev pub IsJudged : Report → Type 0
IsJudged report = JudgedAs report.status report.saved

-- ---- reports of a call over files

-- the file of word n passes its limit: its load took more bytes than that
pub record PassesLimit (n limit : ℕ) (before now : Counts) (report : Report) : Type 0 where
  pub loaded : Loaded before now
  pub status : report.status ≡ TooLong
  pub unsaved : report.saved ≡ None
  pub line : report.line ≡ too_long_line n
  pub taken : RoseBy (limit + 1) before.taken now.taken
  pub last : limit < now.last_taken

-- the file was loaded, and is not in its grammar
pub record IsMalformed (before now : Counts) (report : Report) : Type 0 where
  pub loaded : Loaded before now
  pub status : report.status ≡ Malformed
  pub unsaved : report.saved ≡ None

-- what a load of file word n gives
abbrev pub LoadCaused : {T : Type 0} → (n limit : ℕ) → Counts → Counts → Result T Halt → Type 0
LoadCaused n limit before now (Ok value) = Loaded before now
LoadCaused n limit before now (Err (halts.Reported report)) = PassesLimit n limit before now report ⊎ IsMalformed before now report
LoadCaused n limit before now (Err halts.Fault) = Faulty before now
LoadCaused n limit before now (Err halts.NoMemory) = Quiet before now

-- The line names the word of a file that exceeds its limit. It is the k-th of the files that are loaded, each given by
-- its word and its limit, and was the last that was loaded: its load took more bytes than its limit.
pub record SomePasses (files : List (ℕ × ℕ)) (before now : Counts) (line : List ℕ) : Type 0 where
  pub k : ℕ
  pub n : ℕ
  pub limit : ℕ
  pub file : slice_get files k ≡ Some (n, limit)
  pub line_is : line ≡ too_long_line n
  pub called : now.calls ≡ count_up (k + 1) before.calls
  pub taken : RoseBy (limit + 1) before.taken now.taken
  pub last : limit < now.last_taken

abbrev pub CausedAs : (files : List (ℕ × ℕ)) → Counts → Counts → List ℕ → Status → Option (List ℕ × List ℕ) → Type 0
CausedAs files before now line Done saved = Unit {0}
CausedAs files before now line Refused saved = saved ≡ None
CausedAs files before now line Words saved = ⊥
CausedAs files before now line Malformed saved = saved ≡ None
CausedAs files before now line Fault saved = ⊥
CausedAs files before now line NoMemory saved = ⊥
CausedAs files before now line Clash saved = saved ≡ None
CausedAs files before now line TooLong saved = (saved ≡ None) × SomePasses files before now line

pub record Caused (files : List (ℕ × ℕ)) (before now : Counts) (report : Report) : Type 0 where
  pub quiet : Quiet before now
  pub status : CausedAs files before now report.line report.status report.saved

-- what a command gives that loads these files
abbrev pub ReportCaused : (files : List (ℕ × ℕ)) → Counts → Counts → Result Report Halt → Type 0
ReportCaused files before now (Ok report) = Caused files before now report
ReportCaused files before now (Err (halts.Reported report)) = Caused files before now report
ReportCaused files before now (Err halts.Fault) = Faulty before now
ReportCaused files before now (Err halts.NoMemory) = Quiet before now
