-- What is reported of a file, by whether it is in its grammar.
use Rattle.std.proofs.Common.{◌≡◌, ℕ, List, Ok, Err, refl, sym, subst}
use Rattle.std.specs.Prelude.{◌↔◌}
use Rattle.ksi_imprint.specs.declared.refused.Refused.TheVariants.{Fault}
use Rattle.ksi_schedule.specs.declared.fault.LineFault.{LineFault}
use Rattle.ksi_schedule.specs.declared.fault.ScheduleFault.{ScheduleFault}
use Rattle.ksi_schedule.specs.declared.fault.ScheduleFault.TheVariants as schedules
use Rattle.ksi_schedule.specs.Spelled.{IsScheduleFault, Tells}
use Rattle.ksi_schedule.specs.Reading.{schedule_at}
use Rattle.ksi_top.specs.declared.report.Halt.{Halt}
use Rattle.ksi_top.specs.declared.report.Halt.TheVariants.{Reported}
use Rattle.ksi_top.specs.declared.status.Status.TheVariants.{Malformed}
use Rattle.ksi_top.specs.Reports.{Gives, report}
use Rattle.ksi_lines.specs.FaultWords.{IsLineOf}
use Rattle.ksi_lines.specs.Lines.{malformed_line}
use Rattle.ksi_top.specs.Loading.{FileKind, read_as, schedule_file}

pub told : {T : Type 0} (file : FileKind T) (n : ℕ) (bytes : List ℕ) (value : T) → file.read bytes ≡ Ok value → read_as file n bytes ≡ Ok value
told file n bytes value is = rw is refl

pub malformed : {T : Type 0} (file : FileKind T) (n : ℕ) (bytes : List ℕ) (fault : file.Fault) (line : List ℕ) (halt : Halt)
    → file.read bytes ≡ Err fault → line ≡ malformed_line n (file.words fault) → halt ≡ Reported (report Malformed line) → Gives (read_as file n bytes) (Err halt)
malformed {T = T} file n bytes fault line halt is printed reported = subst (λ (halt : Halt). Gives {T = T} (read_as file n bytes) (Err halt)) (sym reported) (rw (is, printed) refl)

pub schedule_malformed : (n : ℕ) (bytes : List ℕ) (fault : ScheduleFault) (line : List ℕ) (halt : Halt) → ((one : LineFault) (at : ℕ) → (schedule_at bytes ≡ Err (one, at)) ↔ IsScheduleFault bytes one at)
    → Tells bytes (Err (Fault fault)) → IsLineOf n fault line → halt ≡ Reported (report Malformed line) → Gives (read_as schedule_file n bytes) (Err halt)
schedule_malformed n bytes (schedules.Line one at) line halt law is printed reported = malformed schedule_file n bytes (one, at) line halt ((law one at).1 is) printed reported
