-- What a log and a seed make: the block of its lines, or why there is none.
use Rattle.std.specs.Prelude.{◌≡◌, ◌⊎◌, ℕ, List, Result, Ok, Err}
use Rattle.ksi_logblock.specs.declared.logs.LogRefusal.{LogRefusal}
use Rattle.ksi_logblock.specs.Blocks.{Masked}
use Rattle.ksi_logblock.specs.Logs.{IsLogOf, IsLogRefusal, MakeBlock}
use Rattle.ksi_lines.specs.Blocks.{log_refused_line}
use Rattle.ksi_top.specs.declared.report.Report.{Report}
use Rattle.ksi_top.specs.declared.status.Status.TheVariants.{Refused}
use Rattle.ksi_top.specs.Reports.{report}

-- the block of these lines
abbrev pub masked : (seed : List ℕ) → (lines : List (List ℕ)) → Masked
masked seed lines = record { seed = seed; lines = lines }

abbrev pub log_refused : LogRefusal → Report
log_refused refusal = report Refused (log_refused_line refusal)

-- what is reported of the lines of a log, or why they make no block
abbrev pub of_log : Result (List (List ℕ)) LogRefusal → (List (List ℕ) → Report) → Report
of_log (Ok lines) told = told lines
of_log (Err refusal) told = log_refused refusal

-- this refusal applies, and is reported
pub record IsLogRefused (lines : List (List ℕ)) (report : Report) : Type 0 where
  pub refusal : LogRefusal
  pub stands : IsLogRefusal lines refusal
  pub reported : report ≡ log_refused refusal

-- the lines make a block, and of it the report tells this
pub record IsBlockTold (Tells : List (List ℕ) → Report → Type 0) (lines : List (List ℕ)) (report : Report) : Type 0 where
  pub makes : MakeBlock lines
  pub tells : Tells lines report

-- the log has these lines and no others, and makes a block or is refused
pub record IsLogTold (Tells : List (List ℕ) → Report → Type 0) (log : List ℕ) (report : Report) : Type 0 where
  pub lines : List (List ℕ)
  pub lines_are : IsLogOf log lines
  pub either : IsLogRefused lines report ⊎ IsBlockTold Tells lines report
