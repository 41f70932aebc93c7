-- The command `block`.
use Rattle.std.specs.Prelude.{◌≡◌, ℕ, List, [], ◌∷◌, codes, length}
use Rattle.std.specs.Fmt.{decimal}
use Rattle.ksi_imprint.specs.Imprints.{imprint_of}
use Rattle.ksi_schedule.specs.Printed.{hex_of}
use Rattle.ksi_logblock.specs.declared.line_proof.LineProof.{LineProof}
use Rattle.ksi_logblock.specs.Locating.{kept_root}
use Rattle.ksi_logblock.specs.LogReading.{log_at}
use Rattle.ksi_logblock.specs.Shown.{HasImprints, LeadsToRoot, StandsOrClash}
use Rattle.ksi_lines.specs.Lines.{line_text}
use Rattle.ksi_top.specs.declared.report.Report.{Report}
use Rattle.ksi_top.specs.declared.status.Status.TheVariants.{Done}
use Rattle.ksi_top.specs.Log.{IsLogTold, masked, of_log}
use Rattle.ksi_top.specs.Reports.{CommandRow, report, ends, behind, WhereRead}
use Rattle.ksi_top.specs.Loading.{content, loaded, file_limit}

-- how many lines the block has, and its root
abbrev pub block_line : (lines : ℕ) → (root : List ℕ) → List ℕ
block_line lines root = line_text (codes "block" ∷ decimal lines ∷ hex_of root ∷ [])

abbrev pub block_told : (seed : List ℕ) → (lines : List (List ℕ)) → Report
block_told seed lines = report Done (block_line (length lines) (kept_root imprint_of (masked seed lines)))

abbrev pub blocked : (seed log : List ℕ) → Report
blocked seed log = of_log (log_at log) (block_told seed)

-- The root is reported. If any line and proof lead to it, the line is in the block, with the proof's mask and sides, or
-- the two strings that `locate` prints are different and have one hash.
pub record TellsRoot (seed : List ℕ) (lines : List (List ℕ)) (report : Report) : Type 0 where
  pub reported : report ≡ block_told seed lines
  pub shows : (line : List ℕ) (proof : LineProof) → HasImprints proof → LeadsToRoot imprint_of (masked seed lines) line proof → StandsOrClash imprint_of (masked seed lines) line proof

-- the log is loaded, and its block is made
abbrev pub block_command : (log seed : List ℕ) → CommandRow
block_command log seed = record {
  files = (1, file_limit) ∷ [];
  saves = 0;
  ran = λ held. behind (loaded file_limit 1 held log) (λ bytes. ends (blocked seed bytes));
  means = λ held. WhereRead (IsLogTold (TellsRoot seed) (content held log));
}
