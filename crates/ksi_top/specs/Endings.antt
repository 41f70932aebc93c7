-- How a run ends, and what it leaves.
use Rattle.std.specs.Prelude.{◌≡◌, ◌≢◌, ℕ, ◌++◌, Bool, IsTrue, List, Option, Some, None, Result, Ok, Err}
use Rattle.ksi_ports.specs.Outside.{Rose, ExtendsByFront, OthersStay}
use Rattle.ksi_ports.specs.Stored.{Held}
use Rattle.ksi_top.specs.declared.report.Report.{Report}
use Rattle.ksi_words.specs.declared.asked.WordsRefusal.{WordsRefusal}
use Rattle.ksi_top.specs.declared.status.Status.{Status}
use Rattle.ksi_top.specs.declared.status.Status.TheVariants.{Done, Refused, Words, Malformed, Fault, NoMemory, Clash, TooLong}
use Rattle.ksi_top.specs.Causes.{Counts, SomePasses}
use Rattle.ksi_words.specs.Words.{Asked}
use Rattle.ksi_top.specs.Run.{files_of, refused, saved_into}

-- a fact on a run that ended neither by a fault nor by running out of memory
abbrev pub UnlessCut : Status → Type 0 → Type 0
UnlessCut Done P = P
UnlessCut Refused P = P
UnlessCut Words P = P
UnlessCut Malformed P = P
UnlessCut Fault P = Unit {0}
UnlessCut NoMemory P = Unit {0}
UnlessCut Clash P = P
UnlessCut TooLong P = P

-- all names stay but that of the file that is to be saved
abbrev pub NamesStay : Option (List ℕ × List ℕ) → Held → Held → Type 0
NamesStay None old new = new ≡ old
NamesStay (Some file) old new = OthersStay file.0 old new

-- files and output at a moment: what is held, how often a file was saved, how often a call on the files failed and how often
-- a load did, what was written, how often something was put, and how often a put failed
pub record Outside : Type 0 where
  pub held : Held
  pub saves : ℕ
  pub faults : ℕ
  pub load_faults : ℕ
  pub written : List ℕ
  pub puts : ℕ
  pub failed_puts : ℕ

abbrev pub outside : Held → (saves faults load_faults : ℕ) → List ℕ → (puts failed_puts : ℕ) → Outside
outside held saves faults load_faults written puts failed_puts = record { held = held; saves = saves; faults = faults; load_faults = load_faults; written = written; puts = puts; failed_puts = failed_puts }

-- What a fault leaves. Where a load failed: nothing saved and nothing put. Where no load but a save failed: the one name unknown
-- and nothing put. Where no call on the files but a put failed: the file saved and a beginning of the line put.
pub data FaultLeaves (files_tell sink_tells : Bool) (ran : Report) (old new : Outside) : Type 0 where
  at_load : Rose old.faults new.faults → Rose old.load_faults new.load_faults → new.saves ≡ old.saves → (IsTrue files_tell → new.held ≡ old.held) → (IsTrue sink_tells → new.written ≡ old.written) → new.puts ≡ old.puts → FaultLeaves files_tell sink_tells ran old new
  at_save : Rose old.faults new.faults → new.load_faults ≡ old.load_faults → (IsTrue files_tell → NamesStay ran.saved old.held new.held) → (IsTrue sink_tells → new.written ≡ old.written) → new.puts ≡ old.puts → FaultLeaves files_tell sink_tells ran old new
  at_put : Rose old.failed_puts new.failed_puts → new.faults ≡ old.faults → (IsTrue files_tell → new.held ≡ saved_into ran.saved old.held) → (IsTrue files_tell → IsTrue sink_tells → ExtendsByFront old.written ran.line new.written) → FaultLeaves files_tell sink_tells ran old new

-- `Words` is reported exactly where the words are no command
abbrev pub WordsStatus : Result Asked WordsRefusal → Status → Type 0
WordsStatus (Ok command) status = status ≢ Words
WordsStatus (Err refusal) status = status ≡ Words

-- and the line is the refusal's
abbrev pub WordsLine : Result Asked WordsRefusal → List ℕ → List ℕ → Type 0
WordsLine (Ok command) before after = Unit {0}
WordsLine (Err refusal) before after = after ≡ before ++ (refused refusal).line

-- the line names the word of a file whose own load took more bytes than its limit
abbrev pub TookTooMuch : Result Asked WordsRefusal → Counts → Counts → List ℕ → Type 0
TookTooMuch (Ok command) before now line = SomePasses (files_of command) before now line
TookTooMuch (Err refusal) before now line = ⊥
