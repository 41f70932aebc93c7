-- The command `locate`.
use Rattle.std.specs.Prelude.{◌≡◌, ◌↔◌, ℕ, List, [], ◌∷◌}
use Rattle.ksi_imprint.specs.Imprints.{imprint_of}
use Rattle.ksi_logblock.specs.declared.line_proof.LineProof.{LineProof}
use Rattle.ksi_logblock.specs.declared.locating.Located.{Located}
use Rattle.ksi_logblock.specs.declared.locating.Located.TheVariants as answers
use Rattle.ksi_logblock.specs.Blocks.{longest_line}
use Rattle.ksi_logblock.specs.File.{IsProofFile}
use Rattle.ksi_logblock.specs.Locating as locating
use Rattle.ksi_logblock.specs.LogReading.{log_at}
use Rattle.ksi_logblock.specs.Shown.{IsLine, LeadsToRoot, Shows}
use Rattle.ksi_lines.specs.Blocks.{located_line}
use Rattle.ksi_top.specs.declared.report.Report.{Report}
use Rattle.ksi_top.specs.declared.status.Status.{Status}
use Rattle.ksi_top.specs.declared.status.Status.TheVariants.{Done, Refused, Clash}
use Rattle.ksi_top.specs.Log.{IsLogTold, masked, of_log}
use Rattle.ksi_top.specs.Reports.{CommandRow, report, ends, behind, WhereRead}
use Rattle.ksi_top.specs.Loading.{content, loaded, loaded_proof, file_limit}

abbrev pub located_status : Located → Status
located_status (answers.NotAccepted refusal) = Refused
located_status (answers.In k) = Done
located_status (answers.Clash clash) = Clash

abbrev pub located_report : Located → Report
located_report answer = report (located_status answer) (located_line answer)

abbrev pub located_in : (seed line : List ℕ) → LineProof → (lines : List (List ℕ)) → Located
located_in seed line proof lines = locating.located imprint_of (masked seed lines) line proof

abbrev pub located_told : (seed line : List ℕ) → LineProof → (lines : List (List ℕ)) → Report
located_told seed line proof lines = located_report (located_in seed line proof lines)

abbrev pub located : (seed log line : List ℕ) → LineProof → Report
located seed log line proof = of_log (log_at log) (located_told seed line proof)

-- The report is that of an answer which shows what it says: the line and its proof do not lead to the block's root, or line k
-- of the block is this line and the proof's mask and sides are its own, or two different strings have one hash. It is line k
-- exactly where they lead to the root and this holds.
pub record TellsWhere (seed line : List ℕ) (proof : LineProof) (lines : List (List ℕ)) (report : Report) : Type 0 where
  pub answer : Located
  pub answer_is : answer ≡ located_in seed line proof lines
  pub reported : report ≡ located_report answer
  pub shown : Shows imprint_of (masked seed lines) line proof answer
  pub inside : (k : ℕ) → (answer ≡ answers.In k) ↔ (LeadsToRoot imprint_of (masked seed lines) line proof × IsLine imprint_of (masked seed lines) line proof k)

-- with the proof that is read
pub record IsLocated (seed log line proof : List ℕ) (report : Report) : Type 0 where
  pub read : LineProof
  pub proof_is : IsProofFile proof read
  pub over : IsLogTold (TellsWhere seed line read) log report

-- the proof is loaded, and the line is looked up
abbrev pub locate_over : (log seed line proof : List ℕ) → CommandRow
locate_over log seed line proof = record {
  files = (4, file_limit) ∷ [];
  saves = 0;
  ran = λ held. behind (loaded_proof 4 held proof) (λ p. ends (located seed log line p));
  means = λ held. WhereRead (IsLocated seed log line (content held proof));
}

-- the line is loaded, then the proof
abbrev pub locate_beside : (log seed line proof : List ℕ) → CommandRow
locate_beside log seed line proof = record {
  files = (3, longest_line) ∷ (4, file_limit) ∷ [];
  saves = 0;
  ran = λ held. behind (loaded longest_line 3 held line) (λ bytes. (locate_over log seed bytes proof).ran held);
  means = λ held. WhereRead (IsLocated seed log (content held line) (content held proof));
}

-- the log is loaded, then the line, then the proof
abbrev pub locate_command : (log seed line proof : List ℕ) → CommandRow
locate_command log seed line proof = record {
  files = (1, file_limit) ∷ (3, longest_line) ∷ (4, file_limit) ∷ [];
  saves = 0;
  ran = λ held. behind (loaded file_limit 1 held log) (λ bytes. (locate_beside bytes seed line proof).ran held);
  means = λ held. WhereRead (IsLocated seed (content held log) (content held line) (content held proof));
}
