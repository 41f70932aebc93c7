-- The command `make`.
use Rattle.std.specs.Prelude.{◌≡◌, ℕ, List, [], ◌∷◌, codes, length}
use Rattle.std.specs.Fmt.{decimal}
use Rattle.ksi_schedule.specs.Events.{History}
use Rattle.ksi_schedule.specs.Printed.{schedule_text}
use Rattle.ksi_schedule.specs.Spelled.{IsScheduleText}
use Rattle.ksi_replay.specs.Generate.{generated}
use Rattle.ksi_lines.specs.Lines.{line_text}
use Rattle.ksi_top.specs.declared.report.Report.{Report}
use Rattle.ksi_top.specs.Reports.{CommandRow, saving, ends}

abbrev pub made_line : ℕ → List ℕ
made_line events = line_text (codes "made" ∷ decimal events ∷ [])

-- how many events there are; the schedule's text is saved
abbrev pub made : (out : List ℕ) → History → Report
made out h = saving (made_line (length h.events)) out (schedule_text h)

-- what is saved is the schedule of the number, and is read as this schedule
pub record IsMade (number : ℕ) (out : List ℕ) (report : Report) : Type 0 where
  pub reported : report ≡ made out (generated number)
  pub again : IsScheduleText (schedule_text (generated number)) (generated number)

-- the schedule of the number is made; nothing is loaded
abbrev pub make_command : (number : ℕ) (out : List ℕ) → CommandRow
make_command number out = record {
  files = [];
  saves = 1;
  ran = λ held. ends (made out (generated number));
  means = λ held. IsMade number out;
}
