-- The command `checkline`.
use Rattle.std.specs.Prelude.{◌≡◌, ℕ, List, [], ◌∷◌, codes, Result, Ok, Err}
use Rattle.std.specs.Fmt.{decimal}
use Rattle.ksi_imprint.specs.Imprints.{imprint_of}
use Rattle.ksi_aggtree.specs.declared.chains.climbing.LevelFault.{LevelFault}
use Rattle.ksi_signature.specs.declared.signature.Signature.{Signature}
use Rattle.ksi_signature.specs.File.{IsSignature}
use Rattle.ksi_publications.specs.File.{IsPublications}
use Rattle.ksi_verifier.specs.declared.verdict.Verdict.{Verdict}
use Rattle.ksi_verifier.specs.declared.verdict.Verdict.TheVariants.{Accepted, Refused}
use Rattle.ksi_verifier.specs.Verdict.{verdict}
use Rattle.ksi_logblock.specs.declared.line_proof.LineProof.{LineProof}
use Rattle.ksi_logblock.specs.Blocks.{longest_line}
use Rattle.ksi_logblock.specs.File.{IsProofFile}
use Rattle.ksi_logblock.specs.Proofs.{root_by}
use Rattle.ksi_lines.specs.Blocks.{level_line}
use Rattle.ksi_lines.specs.Lines.{line_text, refused_line}
use Rattle.ksi_top.specs.declared.report.Report.{Report}
use Rattle.ksi_top.specs.declared.status.Status.TheVariants as statuses
use Rattle.ksi_top.specs.Reports.{CommandRow, report, ends, behind, WhereRead}
use Rattle.ksi_top.specs.Loading.{content, loaded, loaded_signature, loaded_publications, loaded_proof, signature_limit, file_limit}

abbrev pub line_accepted_line : ℕ → List ℕ
line_accepted_line t = line_text (codes "line" ∷ codes "accepted" ∷ decimal t ∷ [])

abbrev pub line_judged : Verdict → Report
line_judged (Accepted second) = report statuses.Done (line_accepted_line second)
line_judged (Refused refusal) = report statuses.Refused (refused_line refusal)

-- the root that a line and its proof lead to is what was signed
abbrev pub root_judged : Signature → (publications : List (ℕ × List ℕ)) → Result (List ℕ) LevelFault → Report
root_judged signature publications (Ok root) = line_judged (verdict imprint_of signature root publications)
root_judged signature publications (Err fault) = report statuses.Refused (level_line fault)

abbrev pub line_checked : Signature → (publications : List (ℕ × List ℕ)) → (line : List ℕ) → LineProof → Report
line_checked signature publications line proof = root_judged signature publications (root_by imprint_of line proof)

-- the root that the line and its proof lead to is accepted, at this second
pub record IsLineAccepted (signature : Signature) (pairs : List (ℕ × List ℕ)) (line : List ℕ) (proof : LineProof) (report : Report) : Type 0 where
  pub root : List ℕ
  pub second : ℕ
  pub leads : root_by imprint_of line proof ≡ Ok root
  pub accepted : verdict imprint_of signature root pairs ≡ Accepted second
  pub reported : report ≡ line_judged (Accepted second)

-- with the proof that is read
pub record IsLineCheckedBy (signature : Signature) (pairs : List (ℕ × List ℕ)) (line proof : List ℕ) (report : Report) : Type 0 where
  pub read : LineProof
  pub proof_is : IsProofFile proof read
  pub reported : report ≡ line_checked signature pairs line read
  pub accepted : report.status ≡ statuses.Done → IsLineAccepted signature pairs line read report

-- with the publications that are read
pub record IsLineCheckedOver (signature : Signature) (publications line proof : List ℕ) (report : Report) : Type 0 where
  pub pairs : List (ℕ × List ℕ)
  pub publications_are : IsPublications publications pairs
  pub by : IsLineCheckedBy signature pairs line proof report

pub record IsLineChecked (signature publications line proof : List ℕ) (report : Report) : Type 0 where
  pub read : Signature
  pub signature_is : IsSignature signature read
  pub over : IsLineCheckedOver read publications line proof report

-- the proof is loaded, then the checks are made
abbrev pub checkline_by : Signature → (pairs : List (ℕ × List ℕ)) → (line proof : List ℕ) → CommandRow
checkline_by signature pairs line proof = record {
  files = (4, file_limit) ∷ [];
  saves = 0;
  ran = λ held. behind (loaded_proof 4 held proof) (λ p. ends (line_checked signature pairs line p));
  means = λ held. WhereRead (IsLineCheckedBy signature pairs line (content held proof));
}

-- the line is loaded, then the proof
abbrev pub checkline_beside : Signature → (pairs : List (ℕ × List ℕ)) → (line proof : List ℕ) → CommandRow
checkline_beside signature pairs line proof = record {
  files = (3, longest_line) ∷ (4, file_limit) ∷ [];
  saves = 0;
  ran = λ held. behind (loaded longest_line 3 held line) (λ bytes. (checkline_by signature pairs bytes proof).ran held);
  means = λ held. WhereRead (IsLineCheckedBy signature pairs (content held line) (content held proof));
}

-- the publications file is loaded, then the line, then the proof
abbrev pub checkline_over : Signature → (publications line proof : List ℕ) → CommandRow
checkline_over signature publications line proof = record {
  files = (2, file_limit) ∷ (3, longest_line) ∷ (4, file_limit) ∷ [];
  saves = 0;
  ran = λ held. behind (loaded_publications 2 held publications) (λ p. (checkline_beside signature p line proof).ran held);
  means = λ held. WhereRead (IsLineCheckedOver signature (content held publications) (content held line) (content held proof));
}

-- the signature is loaded, then the publications file, then the line, then the proof
abbrev pub checkline_command : (signature publications line proof : List ℕ) → CommandRow
checkline_command signature publications line proof = record {
  files = (1, signature_limit) ∷ (2, file_limit) ∷ (3, longest_line) ∷ (4, file_limit) ∷ [];
  saves = 0;
  ran = λ held. behind (loaded_signature 1 held signature) (λ s. (checkline_over s publications line proof).ran held);
  means = λ held. WhereRead (IsLineChecked (content held signature) (content held publications) (content held line) (content held proof));
}
