-- What a log is read as.
use Rattle.std.proofs.Common.{◌≡◌, ℕ, List, Option, Some, None, Ok, Err, ap, sym, subst}
use Rattle.std.specs.Prelude.{◌↔◌}
use Rattle.ksi_logblock.specs.declared.logs.LogRefusal.{LogRefusal}
use Rattle.ksi_logblock.specs.Logs.{IsLogRefusal, MakeBlock, lines_of}
use Rattle.ksi_logblock.specs.LogReading.{first_refusal, log_at, unless}
use Rattle.ksi_logblock.proofs.LogRefusals.{MakesUnless, not_both, one_refusal, told}

of_lines : (first : Option LogRefusal) (lines given : List (List ℕ)) → MakesUnless lines first → (unless first lines ≡ Ok given) ↔ ((given ≡ lines) × MakeBlock lines)
of_lines None lines given makes = (λ e. (cc, makes), λ is. ap Ok (sym is.0))
of_lines (Some refusal) lines given stands = (λ e. absurd cc, λ is. absurd (not_both lines refusal is.1 stands))

of_refusal : (first : Option LogRefusal) (lines : List (List ℕ)) (refusal : LogRefusal) → MakesUnless lines first → (unless first lines ≡ Err refusal) ↔ IsLogRefusal lines refusal
of_refusal None lines refusal makes = (λ e. absurd cc, λ is. absurd (not_both lines refusal makes is))
of_refusal (Some other) lines refusal stands = (λ e. (let same : other ≡ refusal = cc in subst (IsLogRefusal lines) same stands), λ is. ap Err (one_refusal lines other refusal stands is))

pub lines_read : (log : List ℕ) (lines : List (List ℕ)) → (log_at log ≡ Ok lines) ↔ ((lines ≡ lines_of log) × MakeBlock (lines_of log))
unfolding log_at
lines_read log lines = of_lines (first_refusal (lines_of log)) (lines_of log) lines (told (lines_of log))

pub refusal_read : (log : List ℕ) (refusal : LogRefusal) → (log_at log ≡ Err refusal) ↔ IsLogRefusal (lines_of log) refusal
unfolding log_at
refusal_read log refusal = of_refusal (first_refusal (lines_of log)) (lines_of log) refusal (told (lines_of log))
