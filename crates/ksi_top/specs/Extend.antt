-- The command `extend`.
use Rattle.std.specs.Prelude.{◌≡◌, ℕ, List, [], ◌∷◌, codes, Some, Result, Ok, Err}
use Rattle.std.specs.Fmt.{decimal}
use Rattle.ksi_imprint.specs.Imprints.{imprint_of}
use Rattle.ksi_tlv.specs.Spelling.{AreBytes}
use Rattle.ksi_journal.specs.Journal.{Contents}
use Rattle.ksi_journal.specs.File.{IsJournalFile}
use Rattle.ksi_extender.specs.declared.refusal.ExtendRefusal.{ExtendRefusal}
use Rattle.ksi_extender.specs.declared.refusal.ExtendRefusal.TheVariants as refusals
use Rattle.ksi_extender.specs.Extended.{extended}
use Rattle.ksi_extender.specs.Accepted.{first_time, IsExtended}
use Rattle.ksi_lines.specs.Lines.{line_text}
use Rattle.ksi_lines.specs.Answers.{not_extended_line}
use Rattle.ksi_top.specs.declared.report.Report.{Report}
use Rattle.ksi_top.specs.declared.status.Status.{Status}
use Rattle.ksi_top.specs.declared.status.Status.TheVariants as statuses
use Rattle.ksi_top.specs.Reports.{CommandRow, report, saving, ends, behind, WhereRead}
use Rattle.ksi_top.specs.Loading.{content, loaded_journal, loaded_signature, signature_limit, file_limit}

abbrev pub extended_line : (second publication : ℕ) → List ℕ
extended_line second publication = line_text (codes "extended" ∷ decimal second ∷ decimal publication ∷ [])

abbrev pub refusal_status : ExtendRefusal → Status
refusal_status (refusals.Malformed fault) = statuses.Malformed
refusal_status _ = statuses.Refused

-- of a signature of a second, extended to another
abbrev pub extended_report : (second publication : ℕ) → (out : List ℕ) → Result (List ℕ) ExtendRefusal → Report
extended_report second publication out (Ok bytes) = saving (extended_line second publication) out bytes
extended_report second publication out (Err refusal) = report (refusal_status refusal) (not_extended_line 2 refusal)

-- what is saved is exactly the signature extended to p over the journal, and is accepted
pub record SavesExtension (journal : Contents) (signature : List ℕ) (p : ℕ) (out : List ℕ) (report : Report) : Type 0 where
  pub text : List ℕ
  pub saved : report.saved ≡ Some (out, text)
  pub is : extended imprint_of journal signature p ≡ Ok text
  pub bytes : AreBytes text
  pub extended : IsExtended imprint_of journal signature p text

pub record IsExtensionOver (journal : Contents) (signature : List ℕ) (p : ℕ) (out : List ℕ) (report : Report) : Type 0 where
  pub taken : report.status ≡ statuses.Done → SavesExtension journal signature p out report

pub record IsExtension (journal signature : List ℕ) (p : ℕ) (out : List ℕ) (report : Report) : Type 0 where
  pub contents : Contents
  pub journal_is : IsJournalFile imprint_of journal contents
  pub over : IsExtensionOver contents signature p out report

-- the signature is loaded, and saved extended to the second
abbrev pub extend_over : Contents → (signature : List ℕ) (second : ℕ) (out : List ℕ) → CommandRow
extend_over journal signature second out = record {
  files = (2, signature_limit) ∷ [];
  saves = 1;
  ran = λ held. behind (loaded_signature 2 held signature) (λ s.
      ends (extended_report (first_time s) second out (extended imprint_of journal (content held signature) second)));
  means = λ held. WhereRead (IsExtensionOver journal (content held signature) second out);
}

-- the journal is loaded, then the signature
abbrev pub extend_command : (journal signature : List ℕ) (second : ℕ) (out : List ℕ) → CommandRow
extend_command journal signature second out = record {
  files = (1, file_limit) ∷ (2, signature_limit) ∷ [];
  saves = 1;
  ran = λ held. behind (loaded_journal 1 held journal) (λ j. (extend_over j signature second out).ran held);
  means = λ held. WhereRead (IsExtension (content held journal) (content held signature) second out);
}
