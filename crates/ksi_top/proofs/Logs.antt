-- What is reported of a log, by whether its lines make a block.
use Rattle.std.proofs.Common.{◌≡◌, ◌↔◌, ℕ, List, Result, Ok, Err, inl, inr, refl, sym, ap, subst, ◌∙◌, arith}
use Rattle.std.specs.Prelude.{IfOk}
use Rattle.std.specs.declared.alloc.AllocError.{AllocError}
use Rattle.std.proofs.lemmas.Result.{IfOk-weaker}
use Rattle.ksi_logblock.specs.declared.logs.LogRefusal.{LogRefusal}
use Rattle.ksi_logblock.specs.Blocks.{Masked}
use Rattle.ksi_logblock.specs.LogReading.{log_at}
use Rattle.ksi_logblock.specs.Logs.{IsLogOf, IsLogRefusal, MakeBlock, lines_of}
use Rattle.ksi_top.specs.declared.report.Report.{Report}
use Rattle.ksi_top.specs.Log.{IsLogTold, log_refused, masked, of_log}
use Rattle.ksi_top.proofs.Ends.{IsEnd}

-- the laws of logs
pub record LogLaws : Type 0 where
  pub cut : (log : List ℕ) → IsLogOf log (lines_of log)
  pub lines : (log : List ℕ) (lines : List (List ℕ)) → (log_at log ≡ Ok lines) ↔ ((lines ≡ lines_of log) × MakeBlock (lines_of log))
  pub refusal : (log : List ℕ) (refusal : LogRefusal) → (log_at log ≡ Err refusal) ↔ IsLogRefusal (lines_of log) refusal

module _ (laws : LogLaws) (seed log : List ℕ) where
  -- the block of the log's lines: what is told of it is reported
  pub told_of : (told : (seed : List ℕ) → (lines : List (List ℕ)) → Report) (block : Masked) (result : Result Report AllocError) → block ≡ masked seed (lines_of log) → MakeBlock (lines_of log)
      → IfOk result (λ report. report ≡ told block.seed block.lines) → IfOk result (λ report. report ≡ of_log (log_at log) (told seed))
  told_of told block result same makes is =
      let read : log_at log ≡ Ok (lines_of log) = (laws.lines log (lines_of log)).1 (refl, makes) in
      IfOk-weaker result _ _ (λ report is. is ∙ ap (λ (block : Masked). told block.seed block.lines) same ∙ ap (λ (it : Result (List (List ℕ)) LogRefusal). of_log it (told seed)) (sym read)) is

  pub means_of : (Tells : (seed : List ℕ) → List (List ℕ) → Report → Type 0) (block : Masked) (result : Result Report AllocError) → block ≡ masked seed (lines_of log) → MakeBlock (lines_of log)
      → IfOk result (Tells block.seed block.lines) → IfOk result (IsLogTold (Tells seed) log)
  means_of Tells block result same makes tells =
      IfOk-weaker result _ _ (λ report tells. record {
        lines = lines_of log;
        lines_are = laws.cut log;
        either = inr (record { makes = makes; tells = subst (λ (block : Masked). Tells block.seed block.lines report) same tells });
      }) tells

  -- the refusal that stands
  pub refused_of : (told : (seed : List ℕ) → (lines : List (List ℕ)) → Report) (refusal : LogRefusal) (report : Report) → IsLogRefusal (lines_of log) refusal → report ≡ log_refused refusal → report ≡ of_log (log_at log) (told seed)
  refused_of told refusal report stands is =
      let read : log_at log ≡ Err refusal = (laws.refusal log refusal).1 stands in
      is ∙ ap (λ (it : Result (List (List ℕ)) LogRefusal). of_log it (told seed)) (sym read)

  pub refusal_means : (Tells : (seed : List ℕ) → List (List ℕ) → Report → Type 0) (refusal : LogRefusal) (report : Report) → IsLogRefusal (lines_of log) refusal → report ≡ log_refused refusal → IsLogTold (Tells seed) log report
  refusal_means Tells refusal report stands is = record {
    lines = lines_of log;
    lines_are = laws.cut log;
    either = inl (record { refusal = refusal; stands = stands; reported = is });
  }

-- ---- with what a report of a log ends

pub log_ends : (saves : ℕ) (read : Result (List (List ℕ)) LogRefusal) (told : List (List ℕ) → Report) → ((lines : List (List ℕ)) → IsEnd saves (told lines)) → IsEnd saves (of_log read told)
log_ends saves (Ok lines) told ends = ends lines
log_ends saves (Err refusal) told ends = record { judged = refl; few = omega arith }
