-- The command `verify`.
use Rattle.std.specs.Prelude.{◌≡◌, ℕ, List, [], ◌∷◌, codes}
use Rattle.std.specs.Fmt.{decimal}
use Rattle.ksi_imprint.specs.Imprints.{imprint_of}
use Rattle.ksi_signature.specs.declared.signature.Signature.{Signature}
use Rattle.ksi_signature.specs.File.{IsSignature}
use Rattle.ksi_publications.specs.File.{IsPublications}
use Rattle.ksi_verifier.specs.declared.verdict.Verdict.{Verdict}
use Rattle.ksi_verifier.specs.declared.verdict.Verdict.TheVariants.{Accepted, Refused}
use Rattle.ksi_verifier.specs.Verdict.{verdict}
use Rattle.ksi_lines.specs.Lines.{line_text, refused_line}
use Rattle.ksi_top.specs.declared.report.Report.{Report}
use Rattle.ksi_top.specs.declared.status.Status.TheVariants as statuses
use Rattle.ksi_top.specs.Reports.{CommandRow, report, ends, behind, WhereRead}
use Rattle.ksi_top.specs.Loading.{content, loaded_signature, loaded_publications, signature_limit, file_limit}

abbrev pub accepted_line : ℕ → List ℕ
accepted_line t = line_text (codes "accepted" ∷ decimal t ∷ [])

abbrev pub judged : Verdict → Report
judged (Accepted second) = report statuses.Done (accepted_line second)
judged (Refused refusal) = report statuses.Refused (refused_line refusal)

-- the report is the verdict's
pub record ReportsVerdictOver (signature : Signature) (hash publications : List ℕ) (report : Report) : Type 0 where
  pub pairs : List (ℕ × List ℕ)
  pub publications_are : IsPublications publications pairs
  pub reported : report ≡ judged (verdict imprint_of signature hash pairs)

pub record ReportsVerdict (signature hash publications : List ℕ) (report : Report) : Type 0 where
  pub read : Signature
  pub signature_is : IsSignature signature read
  pub over : ReportsVerdictOver read hash publications report

-- the publications file is loaded, then the checks are made
abbrev pub verify_over : Signature → (hash publications : List ℕ) → CommandRow
verify_over signature hash publications = record {
  files = (3, file_limit) ∷ [];
  saves = 0;
  ran = λ held. behind (loaded_publications 3 held publications) (λ p. ends (judged (verdict imprint_of signature hash p)));
  means = λ held. WhereRead (ReportsVerdictOver signature hash (content held publications));
}

-- the signature is loaded, then the publications file
abbrev pub verify_command : (signature hash publications : List ℕ) → CommandRow
verify_command signature hash publications = record {
  files = (1, signature_limit) ∷ (3, file_limit) ∷ [];
  saves = 0;
  ran = λ held. behind (loaded_signature 1 held signature) (λ s. (verify_over s hash publications).ran held);
  means = λ held. WhereRead (ReportsVerdict (content held signature) hash (content held publications));
}
