-- With what a command ends that has read its files: with no fault, no want of memory, and no file that is too long.
use Rattle.std.proofs.Common.{◌≡◌, ℕ, ◌<◌, ◌≤◌, List, Result, Ok, Err, sym, subst, arith}
use Rattle.std.specs.Prelude.{IfOk}
use Rattle.std.specs.declared.alloc.AllocError.{AllocError}
use Rattle.ksi_top.specs.declared.report.Report.{Report}
use Rattle.ksi_top.specs.declared.status.Status.{Status}
use Rattle.ksi_top.specs.declared.status.Status.TheVariants as statuses
use Rattle.ksi_top.specs.Reports.{Nothing, Ran, ends, report, saving, saves_of}
use Rattle.ksi_top.specs.Causes.{IsJudged, JudgedAs}

-- with at most so many saves
pub record IsEnd (saves : ℕ) (report : Report) : Type 0 where
  pub judged : IsJudged report
  pub few : saves_of report.saved ≤ saves

pub not_long : (saves : ℕ) (report : Report) → IsEnd saves report → report.status ≡ statuses.TooLong → ⊥
not_long saves report is long = subst (λ (status : Status). JudgedAs status report.saved) long is.judged

-- a run that ends with a file that is too long loads one
abbrev pub IsSound : Ran → Type 0
IsSound ran = ran.reported.status ≡ statuses.TooLong → 0 < ran.loads

pub end_is_sound : (saves : ℕ) (report : Report) → IsEnd saves report → IsSound (ends report)
end_is_sound saves report is long = absurd (not_long saves report is long)

pub ends_as : (saves : ℕ) (report : Report) (computed : Result Report AllocError) → IfOk computed (λ it. it ≡ report) → IsEnd saves report → IfOk computed (IsEnd saves)
ends_as saves report (Ok it) is end = subst (λ (it : Report). IsEnd saves it) (sym is) end
ends_as saves report (Err none) is end = tt

pub nothing_of : (computed : Result Report AllocError) → IfOk computed Nothing
nothing_of (Ok report) = tt
nothing_of (Err none) = tt

-- ---- what a command may end with

pub saving_ends : (line name bytes : List ℕ) → IsEnd 1 (saving line name bytes)
saving_ends line name bytes = record { judged = tt; few = omega arith }

pub done_ends : (line : List ℕ) → IsEnd 0 (report statuses.Done line)
done_ends line = record { judged = tt; few = omega arith }
