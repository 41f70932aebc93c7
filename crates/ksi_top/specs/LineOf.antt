-- The command `line`.
use Rattle.std.specs.Prelude.{◌≡◌, ◌⊎◌, ℕ, ◌<◌, ◌≤◌, List, [], ◌∷◌, codes, length, nat_lt, if◌then◌else◌}
use Rattle.std.specs.Fmt.{decimal}
use Rattle.ksi_imprint.specs.Imprints.{imprint_of}
use Rattle.ksi_logblock.specs.declared.line_proof.LineProof.{LineProof}
use Rattle.ksi_logblock.specs.Blocks.{line_at}
use Rattle.ksi_logblock.specs.File.{IsProofFile, proof_text}
use Rattle.ksi_logblock.specs.LogReading.{log_at}
use Rattle.ksi_logblock.specs.Proofs.{own_proof}
use Rattle.ksi_logblock.specs.Shown.{IsLine, LeadsToRoot}
use Rattle.ksi_lines.specs.Blocks.{no_line_line}
use Rattle.ksi_lines.specs.Lines.{line_text}
use Rattle.ksi_top.specs.declared.report.Report.{Report}
use Rattle.ksi_top.specs.declared.status.Status.TheVariants.{Refused}
use Rattle.ksi_top.specs.Log.{IsLogTold, masked, of_log}
use Rattle.ksi_top.specs.Reports.{CommandRow, report, saving, ends, behind, WhereRead}
use Rattle.ksi_top.specs.Loading.{content, loaded, file_limit}

abbrev pub line_line : ℕ → List ℕ
line_line k = line_text (codes "line" ∷ decimal k ∷ [])

-- the proof of line k of the block of these lines
abbrev pub proof_of : (seed : List ℕ) → (lines : List (List ℕ)) → (k : ℕ) → LineProof
proof_of seed lines k = own_proof imprint_of (masked seed lines) k

-- its file is saved
abbrev pub proof_saved : (seed : List ℕ) → (k : ℕ) → (out : List ℕ) → (lines : List (List ℕ)) → Report
proof_saved seed k out lines = saving (line_line k) out (proof_text (proof_of seed lines k))

abbrev pub no_line : (k count : ℕ) → Report
no_line k count = report Refused (no_line_line k count)

abbrev pub line_told : (seed : List ℕ) → (k : ℕ) → (out : List ℕ) → (lines : List (List ℕ)) → Report
line_told seed k out lines = if nat_lt k (length lines) then proof_saved seed k out lines else no_line k (length lines)

abbrev pub lined : (seed : List ℕ) → (k : ℕ) → (out log : List ℕ) → Report
lined seed k out log = of_log (log_at log) (line_told seed k out)

-- The proof of line k is saved, and is read again as it. It and the line lead to the root that `block` tells, and it has the
-- line's own mask and sides.
pub record SavesProof (seed : List ℕ) (k : ℕ) (out : List ℕ) (lines : List (List ℕ)) (report : Report) : Type 0 where
  pub there : k < length lines
  pub reported : report ≡ proof_saved seed k out lines
  pub again : IsProofFile (proof_text (proof_of seed lines k)) (proof_of seed lines k)
  pub leads : LeadsToRoot imprint_of (masked seed lines) (line_at (masked seed lines) k) (proof_of seed lines k)
  pub own : IsLine imprint_of (masked seed lines) (line_at (masked seed lines) k) (proof_of seed lines k) k

-- there is no line k
pub record IsBeyond (k : ℕ) (lines : List (List ℕ)) (report : Report) : Type 0 where
  pub beyond : length lines ≤ k
  pub reported : report ≡ no_line k (length lines)

abbrev pub TellsLine : (seed : List ℕ) → (k : ℕ) → (out : List ℕ) → List (List ℕ) → Report → Type 0
TellsLine seed k out lines report = IsBeyond k lines report ⊎ SavesProof seed k out lines report

-- the log is loaded, and the proof of its line is saved
abbrev pub line_command : (log seed : List ℕ) → (k : ℕ) → (out : List ℕ) → CommandRow
line_command log seed k out = record {
  files = (1, file_limit) ∷ [];
  saves = 1;
  ran = λ held. behind (loaded file_limit 1 held log) (λ bytes. ends (lined seed k out bytes));
  means = λ held. WhereRead (IsLogTold (TellsLine seed k out) (content held log));
}
