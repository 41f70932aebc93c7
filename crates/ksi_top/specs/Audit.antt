-- The command `audit`.
use Rattle.std.specs.Prelude.{◌≡◌, ℕ, List, [], ◌∷◌}
use Rattle.ksi_imprint.specs.Imprints.{imprint_of}
use Rattle.ksi_journal.specs.Journal.{Contents}
use Rattle.ksi_journal.specs.File.{IsJournalFile}
use Rattle.ksi_signature.specs.declared.signature.Signature.{Signature}
use Rattle.ksi_signature.specs.File.{IsSignature}
use Rattle.ksi_publications.specs.File.{IsPublications}
use Rattle.ksi_verifier.specs.declared.verdict.Verdict.TheVariants.{Accepted}
use Rattle.ksi_verifier.specs.Verdict.{verdict}
use Rattle.ksi_auditor.specs.declared.answer.Audit.{Audit}
use Rattle.ksi_auditor.specs.declared.answer.Audit.TheVariants as answers
use Rattle.ksi_auditor.specs.Audit as audits
use Rattle.ksi_auditor.specs.Shown.{IsDecided, MissedIsClash, Shows, Tells}
use Rattle.ksi_lines.specs.Answers.{audit_line}
use Rattle.ksi_top.specs.declared.report.Report.{Report}
use Rattle.ksi_top.specs.declared.status.Status.{Status}
use Rattle.ksi_top.specs.declared.status.Status.TheVariants.{Done, Refused, Clash}
use Rattle.ksi_top.specs.Reports.{CommandRow, report, ends, behind, WhereRead}
use Rattle.ksi_top.specs.Loading.{content, loaded_journal, loaded_signature, loaded_publications, signature_limit, file_limit}

abbrev pub audit_status : Audit → Status
audit_status (answers.Inside second way) = Done
audit_status (answers.Beneath second item links) = Done
audit_status (answers.Clash clash) = Clash
audit_status _ = Refused

abbrev pub audited : Audit → Report
audited answer = report (audit_status answer) (audit_line answer)

-- The report is that of an answer that is true. If the signature is accepted and its publication is decided, the answer
-- has the place of the hash, or a clash. For a second before the start, or for a missed one, such a signature has a
-- clash.
pub record IsAnswered (journal : Contents) (signature : Signature) (hash : List ℕ) (pairs : List (ℕ × List ℕ)) (report : Report) : Type 0 where
  pub answer : Audit
  pub audit_is : answer ≡ audits.audit imprint_of journal signature hash pairs
  pub reported : report ≡ audited answer
  pub shown : Shows imprint_of journal signature hash answer
  pub tells : (t : ℕ) → verdict imprint_of signature hash pairs ≡ Accepted t → IsDecided imprint_of journal signature → Tells answer
  pub missed : MissedIsClash imprint_of journal signature hash pairs answer

-- with the publications that are read
pub record IsAuditedOver (journal : Contents) (signature : Signature) (hash publications : List ℕ) (report : Report) : Type 0 where
  pub pairs : List (ℕ × List ℕ)
  pub publications_are : IsPublications publications pairs
  pub answered : IsAnswered journal signature hash pairs report

-- with the signature that is read
pub record IsAuditedBeside (journal : Contents) (signature hash publications : List ℕ) (report : Report) : Type 0 where
  pub read : Signature
  pub signature_is : IsSignature signature read
  pub over : IsAuditedOver journal read hash publications report

pub record IsAudited (journal signature hash publications : List ℕ) (report : Report) : Type 0 where
  pub contents : Contents
  pub journal_is : IsJournalFile imprint_of journal contents
  pub beside : IsAuditedBeside contents signature hash publications report

-- the publications file is loaded, then the audit is made
abbrev pub audit_over : Contents → Signature → (hash publications : List ℕ) → CommandRow
audit_over journal signature hash publications = record {
  files = (4, file_limit) ∷ [];
  saves = 0;
  ran = λ held. behind (loaded_publications 4 held publications) (λ p. ends (audited (audits.audit imprint_of journal signature hash p)));
  means = λ held. WhereRead (IsAuditedOver journal signature hash (content held publications));
}

-- the signature is loaded, then the publications file
abbrev pub audit_beside : Contents → (signature hash publications : List ℕ) → CommandRow
audit_beside journal signature hash publications = record {
  files = (2, signature_limit) ∷ (4, file_limit) ∷ [];
  saves = 0;
  ran = λ held. behind (loaded_signature 2 held signature) (λ s. (audit_over journal s hash publications).ran held);
  means = λ held. WhereRead (IsAuditedBeside journal (content held signature) hash (content held publications));
}

-- the journal is loaded, then the signature, then the publications file
abbrev pub audit_command : (journal signature hash publications : List ℕ) → CommandRow
audit_command journal signature hash publications = record {
  files = (1, file_limit) ∷ (2, signature_limit) ∷ (4, file_limit) ∷ [];
  saves = 0;
  ran = λ held. behind (loaded_journal 1 held journal) (λ j. (audit_beside j signature hash publications).ran held);
  means = λ held. WhereRead (IsAudited (content held journal) (content held signature) hash (content held publications));
}
