-- What is promised of the parts of the top call: of each file that is loaded, of each command, of the words, of the end, and of
-- a run.
use Rattle.std.specs.Prelude.{◌≡◌, ◌≢◌, ◌⊎◌, ℕ, ◌+◌, ◌<◌, ◌≤◌, ◌++◌, IsTrue, IfOk, IfErr, List, length, Option, None, Result, Ok, Err}
use Rattle.ksi_ports.specs.Outside.{Rose, ExtendsByFront, SaveCounts}
use Rattle.ksi_ports.specs.Stored.{Held}
use Rattle.ksi_ports.specs.declared.files.Files as files
use Rattle.ksi_ports.specs.declared.files.SaveRefusal.{SaveRefusal}
use Rattle.ksi_ports.specs.declared.files.SaveRefusal.TheVariants as saves
use Rattle.ksi_ports.specs.declared.sink.Sink as sinks
use Rattle.ksi_words.specs.declared.asked.WordsRefusal.{WordsRefusal}
use Rattle.ksi_words.specs.Words.{Asked, command_of}
use Rattle.ksi_top.specs.declared.report.Report.{Report}
use Rattle.ksi_top.specs.declared.report.Halt.{Halt}
use Rattle.ksi_top.specs.declared.report.Halt.TheVariants as halts
use Rattle.ksi_top.specs.declared.status.Status.{Status}
use Rattle.ksi_top.specs.declared.status.Status.TheVariants.{Done, Words, Fault, NoMemory, TooLong}
use Rattle.ksi_top.specs.Reports.{CommandRow, Gives, Reports, Means, IsTooLong, Unloaded, saves_of}
use Rattle.ksi_top.specs.Causes.{Counts, Quiet, Faulty, LoadCaused, ReportCaused, counts_of}
use Rattle.ksi_top.specs.Run.{Headline, files_of, most_calls, refused, row_of, run, run_calls, run_loads, saved_into}
use Rattle.ksi_top.specs.Endings.{FaultLeaves, NamesStay, TookTooMuch, UnlessCut, WordsLine, WordsStatus, outside}

-- a file word that is loaded and read
pub record IsLoaded {F T : Type 0} (kind : files.Ghosts F) (n limit : ℕ) (expected : Result T Report) (old new : F) (result : Result T Halt) : Type 0 where
  -- where the files tell what they hold: the value, or the report in its place, and nothing changes
  pub told : IsTrue kind.tells → Gives expected result
  pub stays : IsTrue kind.tells → kind.held new ≡ kind.held old
  -- it is loaded at most once, and not at all if it is too long and memory ran out
  pub later : kind.calls old ≤ kind.calls new
  pub few_calls : kind.calls new ≤ kind.calls old + 1
  pub wanting : IsTrue kind.tells → result ≡ Err halts.NoMemory → IsTooLong expected → kind.calls new ≡ kind.calls old
  -- a report has its cause
  pub causes : LoadCaused n limit (counts_of kind old) (counts_of kind new) result

-- a command of this row, before anything is saved or put
pub record Performed {F : Type 0} (kind : files.Ghosts F) (row : CommandRow) (old new : F) (result : Result Report Halt) : Type 0 where
  -- where the files tell what they hold: its report, what that means, and nothing changes
  pub told : IsTrue kind.tells → Reports (row.ran (kind.held old)).reported result
  pub means : IsTrue kind.tells → Means (row.means (kind.held old)) result
  pub stays : IsTrue kind.tells → kind.held new ≡ kind.held old
  -- each file is loaded at most once, and only after those that are read
  pub calls : IsTrue kind.tells → kind.calls new ≤ kind.calls old + (row.ran (kind.held old)).loads
  pub later : kind.calls old ≤ kind.calls new
  pub few_calls : kind.calls new ≤ kind.calls old + length row.files
  pub wanting : IsTrue kind.tells → Unloaded (row.ran (kind.held old)) (kind.calls old) (kind.calls new) result
  -- a report saves what it may, and has its cause
  pub few_saves : Means (λ report. saves_of report.saved ≤ row.saves) result
  pub causes : ReportCaused row.files (counts_of kind old) (counts_of kind new) result

-- ---- the words

abbrev pub WordsCaused : Result Asked WordsRefusal → Report → Type 0
WordsCaused (Ok command) report = report.status ≢ Words
WordsCaused (Err refusal) report = report ≡ refused refusal

-- a report has its cause in the words or in the files
pub record HasCause (asked : Result Asked WordsRefusal) (before now : Counts) (report : Report) : Type 0 where
  pub quiet : Quiet before now
  pub no_fault : report.status ≢ Fault
  pub no_want : report.status ≢ NoMemory
  pub words : WordsCaused asked report
  pub too_long : report.status ≡ TooLong → TookTooMuch asked before now report.line
  pub unsaved : report.status ≢ Done → report.saved ≡ None

abbrev pub RunCaused : Result Asked WordsRefusal → Counts → Counts → Result Report Halt → Type 0
RunCaused asked before now (Ok report) = HasCause asked before now report
RunCaused asked before now (Err (halts.Reported report)) = HasCause asked before now report
RunCaused asked before now (Err halts.Fault) = Faulty before now
RunCaused asked before now (Err halts.NoMemory) = Quiet before now

-- a run of words, before anything is saved or put
pub record IsReported {F : Type 0} (kind : files.Ghosts F) (words : List (List ℕ)) (old new : F) (result : Result Report Halt) : Type 0 where
  pub told : IsTrue kind.tells → Reports (run words (kind.held old)) result
  pub headline : IsTrue kind.tells → IfOk (command_of words) (λ asked. Means (Headline asked (kind.held old)) result)
  pub stays : IsTrue kind.tells → kind.held new ≡ kind.held old
  pub calls : IsTrue kind.tells → kind.calls new ≤ kind.calls old + run_loads (command_of words) (kind.held old)
  pub few_calls : IfOk (command_of words) (λ asked. kind.calls new ≤ kind.calls old + length (files_of asked))
  pub untouched : IfErr (command_of words) (λ _. kind.calls new ≡ kind.calls old)
  pub few_saves : IfOk (command_of words) (λ asked. Means (λ report. saves_of report.saved ≤ (row_of asked).saves) result)
  pub wanting : IsTrue kind.tells → result ≡ Err halts.NoMemory → (run words (kind.held old)).status ≡ TooLong → kind.calls new < kind.calls old + run_loads (command_of words) (kind.held old)
  pub causes : RunCaused (command_of words) (counts_of kind old) (counts_of kind new) result

-- ---- the end of a run: its file is saved, then its line is put

-- what a save leaves, where there is a file to save
abbrev pub SavedAs : Option (List ℕ × List ℕ) → Held → Held → Result (Unit {0}) SaveRefusal → Type 0
SavedAs saved old new (Ok u) = new ≡ saved_into saved old
SavedAs saved old new (Err saves.Failed) = NamesStay saved old new
SavedAs saved old new (Err saves.NoMemory) = new ≡ old

pub record Saves {F : Type 0} (kind : files.Ghosts F) (saved : Option (List ℕ × List ℕ)) (old new : F) (result : Result (Unit {0}) SaveRefusal) : Type 0 where
  pub leaves : IsTrue kind.tells → SavedAs saved (kind.held old) (kind.held new) result
  pub later_calls : kind.calls old ≤ kind.calls new
  pub calls : kind.calls new ≤ kind.calls old + saves_of saved
  pub counted : SaveCounts (kind.faults old) (kind.faults new) result
  pub unloaded : kind.load_faults new ≡ kind.load_faults old
  pub taken : kind.taken old ≤ kind.taken new
  pub untouched : saved ≡ None → new ≡ old
  pub no_save : result ≡ Err saves.NoMemory → (saved ≢ None) × (kind.saves new ≡ kind.saves old)

pub record Puts {K : Type 0} (kind : sinks.Ghosts K) (report : Report) (old new : K) (result : Status) : Type 0 where
  pub status : UnlessCut result (result ≡ report.status)
  pub some : result ≢ NoMemory
  pub put : IsTrue kind.tells → UnlessCut result (kind.written new ≡ kind.written old ++ report.line)
  pub one_line : IsTrue kind.tells → (line : List ℕ) × (kind.written new ≡ kind.written old ++ line) × (length line ≤ 32767)
  pub one_put : kind.puts new ≤ kind.puts old + 1
  pub short_put : kind.given new ≤ kind.given old + 32767
  pub free : kind.free old ≤ kind.free new + 32767
  pub later : kind.faults old ≤ kind.faults new
  pub quiet : result ≢ Fault → kind.faults new ≡ kind.faults old
  pub fault : result ≡ Fault → Rose (kind.faults old) (kind.faults new) × (IsTrue kind.tells → ExtendsByFront (kind.written old) report.line (kind.written new))

-- what the end of a run leaves
pub record Finished {F K : Type 0} (files_kind : files.Ghosts F) (sink_kind : sinks.Ghosts K) (report : Report) (old new : F) (before now : K) (result : Status) : Type 0 where
  pub status : UnlessCut result (result ≡ report.status)
  pub saved : IsTrue files_kind.tells → UnlessCut result (files_kind.held new ≡ saved_into report.saved (files_kind.held old))
  pub put : IsTrue sink_kind.tells → UnlessCut result (sink_kind.written now ≡ sink_kind.written before ++ report.line)
  pub calls : files_kind.calls new ≤ files_kind.calls old + saves_of report.saved
  pub later_calls : files_kind.calls old ≤ files_kind.calls new
  pub one_line : IsTrue sink_kind.tells → (line : List ℕ) × (sink_kind.written now ≡ sink_kind.written before ++ line) × (length line ≤ 32767)
  pub one_put : sink_kind.puts now ≤ sink_kind.puts before + 1
  pub short_put : sink_kind.given now ≤ sink_kind.given before + 32767
  pub free : sink_kind.free before ≤ sink_kind.free now + 32767
  pub untouched : report.saved ≡ None → new ≡ old
  pub no_save : result ≡ NoMemory → (report.saved ≢ None) × (files_kind.saves new ≡ files_kind.saves old)
  pub quiet : result ≢ Fault → (files_kind.faults new ≡ files_kind.faults old) × (sink_kind.faults now ≡ sink_kind.faults before)
  pub later : (files_kind.faults old ≤ files_kind.faults new) × (sink_kind.faults before ≤ sink_kind.faults now)
  pub taken : files_kind.taken old ≤ files_kind.taken new
  pub fault : result ≡ Fault →
      FaultLeaves files_kind.tells sink_kind.tells report
      (outside (files_kind.held old) (files_kind.saves old) (files_kind.faults old) (files_kind.load_faults old) (sink_kind.written before) (sink_kind.puts before) (sink_kind.faults before))
      (outside (files_kind.held new) (files_kind.saves new) (files_kind.faults new) (files_kind.load_faults new) (sink_kind.written now) (sink_kind.puts now) (sink_kind.faults now))
  pub files_fault : files_kind.faults old < files_kind.faults new → result ≡ Fault
  pub sink_fault : sink_kind.faults before < sink_kind.faults now → result ≡ Fault
  pub unsaved : result ≢ Done → result ≢ Fault → IsTrue files_kind.tells → files_kind.held new ≡ files_kind.held old
  pub unput : result ≡ NoMemory → (sink_kind.puts now ≡ sink_kind.puts before) × (IsTrue sink_kind.tells → sink_kind.written now ≡ sink_kind.written before)

-- ---- a run: it reports, then it ends

-- what the top call promises of a run of words, but that it is complete
pub record IsRun {F K : Type 0} (files_kind : files.Ghosts F) (sink_kind : sinks.Ghosts K) (given : List (List ℕ)) (old new : F) (before now : K) (result : Status) : Type 0 where
  pub status : IsTrue files_kind.tells → UnlessCut result (result ≡ (run given (files_kind.held old)).status)
  pub saved : IsTrue files_kind.tells → UnlessCut result (files_kind.held new ≡ saved_into (run given (files_kind.held old)).saved (files_kind.held old))
  pub put : IsTrue files_kind.tells → IsTrue sink_kind.tells → UnlessCut result (sink_kind.written now ≡ sink_kind.written before ++ (run given (files_kind.held old)).line)
  pub headline : IsTrue files_kind.tells → IfOk (command_of given) (λ asked. UnlessCut result (Headline asked (files_kind.held old) (run given (files_kind.held old))))
  pub calls : IsTrue files_kind.tells → files_kind.calls new ≤ files_kind.calls old + run_calls given (files_kind.held old)
  pub few_calls : files_kind.calls new ≤ files_kind.calls old + most_calls (command_of given)
  pub untouched : IfErr (command_of given) (λ _. files_kind.calls new ≡ files_kind.calls old)
  pub fault_rose : result ≡ Fault → Rose (files_kind.faults old) (files_kind.faults new) ⊎ Rose (sink_kind.faults before) (sink_kind.faults now)
  pub fault : result ≡ Fault →
      FaultLeaves files_kind.tells sink_kind.tells (run given (files_kind.held old))
      (outside (files_kind.held old) (files_kind.saves old) (files_kind.faults old) (files_kind.load_faults old) (sink_kind.written before) (sink_kind.puts before) (sink_kind.faults before))
      (outside (files_kind.held new) (files_kind.saves new) (files_kind.faults new) (files_kind.load_faults new) (sink_kind.written now) (sink_kind.puts now) (sink_kind.faults now))
  pub files_fault : files_kind.faults old < files_kind.faults new → result ≡ Fault
  pub sink_fault : sink_kind.faults before < sink_kind.faults now → result ≡ Fault
  pub unsaved : result ≢ Done → result ≢ Fault → IsTrue files_kind.tells → files_kind.held new ≡ files_kind.held old
  pub unput : result ≡ NoMemory → (sink_kind.puts now ≡ sink_kind.puts before) × (IsTrue sink_kind.tells → sink_kind.written now ≡ sink_kind.written before)
  pub wanting : IsTrue files_kind.tells → result ≡ NoMemory → (run given (files_kind.held old)).status ≡ TooLong → files_kind.calls new < files_kind.calls old + run_loads (command_of given) (files_kind.held old)
  pub words : UnlessCut result (WordsStatus (command_of given) result)
  pub words_line : IsTrue sink_kind.tells → UnlessCut result (WordsLine (command_of given) (sink_kind.written before) (sink_kind.written now))
  pub too_long : result ≡ TooLong →
      (line : List ℕ) × (IsTrue sink_kind.tells → sink_kind.written now ≡ sink_kind.written before ++ line)
      × TookTooMuch (command_of given) (counts_of files_kind old) (counts_of files_kind new) line
  pub one_line : IsTrue sink_kind.tells → (line : List ℕ) × (sink_kind.written now ≡ sink_kind.written before ++ line) × (length line ≤ 32767)
  pub one_put : sink_kind.puts now ≤ sink_kind.puts before + 1
  pub short_put : sink_kind.given now ≤ sink_kind.given before + 32767
  pub free : sink_kind.free before ≤ sink_kind.free now + 32767
  pub no_save : result ≢ Done → result ≢ Fault → files_kind.saves new ≡ files_kind.saves old
  pub quiet : result ≢ Fault → (files_kind.faults new ≡ files_kind.faults old) × (sink_kind.faults now ≡ sink_kind.faults before)
  pub later : (files_kind.faults old ≤ files_kind.faults new) × (files_kind.taken old ≤ files_kind.taken new) × (sink_kind.faults before ≤ sink_kind.faults now)
