-- What is reported of a log and a seed, by their bytes.
use Rattle.std.specs.Prelude.{ℕ, List, [], ◌∷◌, codes, length, nat_lt, Some, None, Result, Ok, Err, if◌then◌else◌}
use Rattle.std.specs.Fmt.{decimal}
use Rattle.ksi_imprint.specs.Imprints.{imprint_of}
use Rattle.ksi_schedule.specs.Printed.{hex_of}
use Rattle.ksi_logblock.specs.declared.line_proof.LineProof.{LineProof}
use Rattle.ksi_logblock.specs.declared.locating.Located.{Located}
use Rattle.ksi_logblock.specs.declared.locating.Located.TheVariants as answers
use Rattle.ksi_logblock.specs.declared.logs.LogRefusal.{LogRefusal}
use Rattle.ksi_logblock.specs.Blocks.{Masked}
use Rattle.ksi_logblock.specs.File.{proof_text}
use Rattle.ksi_logblock.specs.Locating.{kept_root, located}
use Rattle.ksi_logblock.specs.LogReading.{log_at}
use Rattle.ksi_logblock.specs.Proofs.{own_proof}
use Rattle.ksi_lines.specs.Blocks.{located_line, log_refused_line, no_line_line}
use Rattle.ksi_lines.specs.Lines.{line_text}
use Rattle.ksi_blocks.specs.declared.report.Report.{Report}

-- a status and a line, and nothing to save
abbrev pub report : ℕ → List ℕ → Report
report status line = record { status = status; line = line; file = None }

-- the result's line, and a file to save
abbrev pub saving : List ℕ → List ℕ → Report
saving line file = record { status = 0; line = line; file = Some file }

-- file word n has too many bytes
abbrev pub too_long : ℕ → Report
too_long n = report 7 (line_text (codes "too" ∷ codes "long" ∷ decimal n ∷ []))

-- the file of word 2 has no seed
abbrev pub bad_seed : Report
bad_seed = report 3 (line_text (codes "bad" ∷ codes "seed" ∷ decimal 2 ∷ []))

-- ---- the block of a log's lines

abbrev pub masked : (seed : List ℕ) → (lines : List (List ℕ)) → Masked
masked seed lines = record { seed = seed; lines = lines }

abbrev pub log_refused : LogRefusal → Report
log_refused refusal = report 1 (log_refused_line refusal)

-- what is reported of the lines of a log, or why they make no block
abbrev pub of_log : Result (List (List ℕ)) LogRefusal → (List (List ℕ) → Report) → Report
of_log (Ok lines) told = told lines
of_log (Err refusal) told = log_refused refusal

-- ---- `block`: how many lines the block has, and its root

abbrev pub root_report : (seed : List ℕ) → (lines : List (List ℕ)) → Report
root_report seed lines = report 0 (line_text (codes "block" ∷ decimal (length lines) ∷ hex_of (kept_root imprint_of (masked seed lines)) ∷ []))

abbrev pub block_report : (seed log : List ℕ) → Report
block_report seed log = of_log (log_at log) (root_report seed)

-- ---- `line`: the proof of line k of the block is saved, if there is a line k

abbrev pub proof_report : (seed : List ℕ) → (k : ℕ) → (lines : List (List ℕ)) → Report
proof_report seed k lines = saving (line_text (codes "line" ∷ decimal k ∷ [])) (proof_text (own_proof imprint_of (masked seed lines) k))

abbrev pub proof_or_none : (seed : List ℕ) → (k : ℕ) → (lines : List (List ℕ)) → Report
proof_or_none seed k lines = if nat_lt k (length lines) then proof_report seed k lines else report 1 (no_line_line k (length lines))

abbrev pub line_report : (seed : List ℕ) → (k : ℕ) → (log : List ℕ) → Report
line_report seed k log = of_log (log_at log) (proof_or_none seed k)

-- ---- `locate`: the place of a line and its proof in the block

abbrev pub located_status : Located → ℕ
located_status (answers.NotAccepted refusal) = 1
located_status (answers.In k) = 0
located_status (answers.Clash clash) = 6

abbrev pub located_report : Located → Report
located_report answer = report (located_status answer) (located_line answer)

abbrev pub where_report : (seed line : List ℕ) → LineProof → (lines : List (List ℕ)) → Report
where_report seed line proof lines = located_report (located imprint_of (masked seed lines) line proof)

abbrev pub locate_report : (seed line : List ℕ) → LineProof → (log : List ℕ) → Report
locate_report seed line proof log = of_log (log_at log) (where_report seed line proof)
