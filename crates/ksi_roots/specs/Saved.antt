-- A signature of a file, saved with an extension to a later second.
use Rattle.std.specs.Prelude.{◌≡◌, ℕ, List, Some, Result, Ok, Err}
use Rattle.ksi_ports.specs.Stored.{Held, with_file}
use Rattle.ksi_calendar.specs.Calendar.{Seconds}
use Rattle.ksi_extender.specs.Extended.{extended}
use Rattle.ksi_calendar_extender.specs.Kept.{journal_of}
use Rattle.ksi_roots.specs.declared.report.Halt.{Halt}
use Rattle.ksi_roots.specs.declared.report.Halt.TheVariants as halts

-- The bytes under one name, extended to p over the calendar's roots, are saved under the other one, and nothing else changed.
pub record IsSaved (image : List ℕ → List ℕ) (seconds : Seconds) (p : ℕ) (name out : List ℕ) (old new : Held) : Type 0 where
  pub bytes : List ℕ
  pub text : List ℕ
  pub loaded : old name ≡ Some bytes
  pub is : extended image (journal_of seconds) bytes p ≡ Ok text
  pub saved : new ≡ with_file old out text

-- what a call leaves that saves an extension: of a refusal no file is changed
abbrev pub Leaves : {T : Type 0} → Type 0 → (old new : Held) → Result T Halt → Type 0
Leaves saved old new (Ok done) = saved
Leaves saved old new (Err (halts.Reported report)) = new ≡ old
Leaves saved old new (Err halts.Fault) = Unit {0}
Leaves saved old new (Err halts.NoMemory) = Unit {0}
