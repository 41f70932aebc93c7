-- What is reported of a log, by whether its lines make a block.
use Rattle.std.proofs.Common.{◌≡◌, ◌↔◌, ℕ, List, Result, Ok, Err, refl, sym, ap, ◌∙◌, subst}
use Rattle.ksi_logblock.specs.declared.logs.LogRefusal.{LogRefusal}
use Rattle.ksi_logblock.specs.Blocks.{Masked}
use Rattle.ksi_logblock.specs.LogReading.{log_at}
use Rattle.ksi_logblock.specs.Logs.{IsLogRefusal, MakeBlock, lines_of}
use Rattle.ksi_blocks.specs.declared.report.Report.{Report}
use Rattle.ksi_blocks.specs.declared.report.Halt.{Halt}
use Rattle.ksi_blocks.specs.Loading.{Gives, Outcome}
use Rattle.ksi_blocks.specs.Reports.{log_refused, masked, of_log}

-- the law of logs that are read
pub record LogLaw : Type 0 where
  pub lines : (log : List ℕ) (lines : List (List ℕ)) → (log_at log ≡ Ok lines) ↔ ((lines ≡ lines_of log) × MakeBlock (lines_of log))
  pub refusal : (log : List ℕ) (refusal : LogRefusal) → (log_at log ≡ Err refusal) ↔ IsLogRefusal (lines_of log) refusal

abbrev given : Report → Outcome Report
given report = Ok report

module _ (law : LogLaw) (seed log slice : List ℕ) (whole : slice ≡ log) (told : (seed : List ℕ) → (lines : List (List ℕ)) → Report) where
  -- the report on the block of the log's lines is the result
  pub told_of : (block : Masked) (result : Result Report Halt) → block ≡ masked seed (lines_of slice) → MakeBlock (lines_of slice)
      → Gives (given (told block.seed block.lines)) result → Gives (given (of_log (log_at log) (told seed))) result
  told_of block result same makes is =
      let read : log_at slice ≡ Ok (lines_of slice) = (law.lines slice (lines_of slice)).1 (refl, makes) in
      let reported : told block.seed block.lines ≡ of_log (log_at log) (told seed) =
      ap (λ (block : Masked). told block.seed block.lines) same
      ∙ ap (λ (it : Result (List (List ℕ)) LogRefusal). of_log it (told seed)) (sym read)
      ∙ ap (λ (log : List ℕ). of_log (log_at log) (told seed)) whole
      in subst (λ (report : Report). Gives (given report) result) reported is

  -- the refusal that applies
  pub refused_of : (refusal : LogRefusal) (report : Report) → IsLogRefusal (lines_of slice) refusal → report ≡ log_refused refusal → given (of_log (log_at log) (told seed)) ≡ given report
  refused_of refusal report applies is =
      let read : log_at slice ≡ Err refusal = (law.refusal slice refusal).1 applies in
      ap given (ap (λ (log : List ℕ). of_log (log_at log) (told seed)) (sym whole) ∙ ap (λ (it : Result (List (List ℕ)) LogRefusal). of_log it (told seed)) read ∙ sym is)
