-- What the files of a command line give, and what a command leaves.
use Rattle.std.specs.Prelude.{◌≡◌, ℕ, List, length, nat_lt, Option, Some, None, Result, Ok, Err, if◌then◌else◌}
use Rattle.ksi_ports.specs.declared.files.SaveRefusal.{SaveRefusal}
use Rattle.ksi_ports.specs.Outside.{OthersStay, SaveLeaves}
use Rattle.ksi_ports.specs.Stored.{Held, with_file}
use Rattle.ksi_blocks.specs.declared.report.Report.{Report}
use Rattle.ksi_blocks.specs.declared.report.Halt.{Halt}
use Rattle.ksi_blocks.specs.declared.report.Halt.TheVariants as halts
use Rattle.ksi_blocks.specs.Reports.{too_long}

-- a value, or the report that ends the run in its place, or neither if a file is missing
abbrev pub Outcome : Type 0 → Type 0
Outcome T = Result T (Option Report)

-- the first step that gives no value ends the run
infixl 10 ◌>>=◌
abbrev pub ◌>>=◌ : {T U : Type 0} → Outcome T → (T → Outcome U) → Outcome U
Ok value >>= next = next value
Err ended >>= next = Err ended

-- the bytes of file word n, of which there are at most this many
abbrev pub loaded : (n most : ℕ) → Option (List ℕ) → Outcome (List ℕ)
loaded n most None = Err None
loaded n most (Some bytes) = if nat_lt most (length bytes) then Err (Some (too_long n)) else Ok bytes

-- a call returns this value or report, if no file failed and memory did not run out
abbrev pub Gives : {T : Type 0} → Outcome T → Result T Halt → Type 0
Gives outcome (Ok value) = outcome ≡ Ok value
Gives outcome (Err (halts.Reported report)) = outcome ≡ Err (Some report)
Gives outcome (Err halts.Fault) = Unit {0}
Gives outcome (Err halts.NoMemory) = Unit {0}

-- a report's file is saved under a name
abbrev pub saved_into : Option (List ℕ) → List ℕ → Held → Held
saved_into None out held = held
saved_into (Some file) out held = with_file held out file

-- what a save leaves, if there is a file to save
abbrev pub SavesFile : (out : List ℕ) → (old new : Held) → Result (Unit {0}) SaveRefusal → Option (List ℕ) → Type 0
SavesFile out old new result None = (result ≡ Ok tt) × (new ≡ old)
SavesFile out old new result (Some file) = SaveLeaves out file old new result

-- what a command that saves leaves: only a failed save leaves the content of its name unknown
abbrev pub Leaves : (out : List ℕ) → (old new : Held) → Result Report Halt → Type 0
Leaves out old new (Ok report) = new ≡ saved_into report.file out old
Leaves out old new (Err (halts.Reported report)) = new ≡ old
Leaves out old new (Err halts.Fault) = OthersStay out old new
Leaves out old new (Err halts.NoMemory) = new ≡ old
