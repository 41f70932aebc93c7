-- Each command, as a function of what the files hold.
use Rattle.std.specs.Prelude.{ℕ, List, Option, Some, Result, Ok, Err}
use Rattle.ksi_ports.specs.Stored.{Held}
use Rattle.ksi_logblock.specs.declared.line_proof.LineProof.{LineProof}
use Rattle.ksi_logblock.specs.declared.proof_fault.ProofFault.{ProofFault}
use Rattle.ksi_logblock.specs.Blocks.{longest_line}
use Rattle.ksi_logblock.specs.ProofReading.{proof_at}
use Rattle.ksi_lines.specs.FaultWords.{proof_fault}
use Rattle.ksi_lines.specs.Lines.{malformed_line}
use Rattle.ksi_blocks.specs.declared.report.Report.{Report}
use Rattle.ksi_blocks.specs.declared.report.Halt.{Halt}
use Rattle.ksi_blocks.specs.declared.report.Halt.TheVariants.{Reported}
use Rattle.ksi_blocks.specs.declared.source.Source.{Source}
use Rattle.ksi_blocks.specs.Loading.{Outcome, loaded, ◌>>=◌}
use Rattle.ksi_blocks.specs.Reports.{block_report, line_report, locate_report, report}
use Rattle.ksi_blocks.specs.Seeds.{seed_loaded}

-- the most bytes that a log or a proof may have
abbrev pub file_limit : ℕ
file_limit = 67108864

abbrev pub sourced : (seed log : List ℕ) → Outcome Source
sourced seed log = Ok (record { seed = seed; log = log })

-- the log of word 1, with its seed
abbrev pub log_loaded : (seed : List ℕ) → Option (List ℕ) → Outcome Source
log_loaded seed held = loaded 1 file_limit held >>= sourced seed

-- the seed is loaded before the log
abbrev pub source_loaded : Held → (log seed : List ℕ) → Outcome Source
source_loaded held log seed = seed_loaded (held seed) >>= λ bytes. log_loaded bytes (held log)

-- ---- `block`

abbrev pub blocked : Source → Outcome Report
blocked source = Ok (block_report source.seed source.log)

abbrev pub block_run : Held → (log seed : List ℕ) → Outcome Report
block_run held log seed = source_loaded held log seed >>= blocked

-- ---- `line`

abbrev pub lined : (k : ℕ) → Source → Outcome Report
lined k source = Ok (line_report source.seed k source.log)

abbrev pub line_run : Held → (log seed : List ℕ) → (k : ℕ) → Outcome Report
line_run held log seed k = source_loaded held log seed >>= lined k

-- ---- `locate`

abbrev pub malformed : ProofFault → Halt
malformed fault = Reported (report 3 (malformed_line 4 (proof_fault fault)))

abbrev pub proof_or_malformed : Result LineProof ProofFault → Outcome LineProof
proof_or_malformed (Ok proof) = Ok proof
proof_or_malformed (Err fault) = Err (Some (report 3 (malformed_line 4 (proof_fault fault))))

-- the proof of word 4
abbrev pub proof_loaded : Option (List ℕ) → Outcome LineProof
proof_loaded held = loaded 4 file_limit held >>= λ bytes. proof_or_malformed (proof_at bytes)

abbrev pub looked_up : Source → (line : List ℕ) → LineProof → Outcome Report
looked_up source line proof = Ok (locate_report source.seed line proof source.log)

abbrev pub located_by : Source → (line : List ℕ) → Option (List ℕ) → Outcome Report
located_by source line held = proof_loaded held >>= looked_up source line

-- the line of word 3 is loaded before the proof
abbrev pub line_located : Held → (line proof : List ℕ) → Source → Outcome Report
line_located held line proof source = loaded 3 longest_line (held line) >>= λ bytes. located_by source bytes (held proof)

abbrev pub locate_run : Held → (log seed line proof : List ℕ) → Outcome Report
locate_run held log seed line proof = source_loaded held log seed >>= line_located held line proof
