-- The command `migrate`.
use Rattle.std.specs.Prelude.{◌≡◌, ℕ, ◌≤◌, List, [], ◌∷◌, codes, length}
use Rattle.std.specs.Fmt.{decimal}
use Rattle.ksi_imprint.specs.Imprints.{imprint_of}
use Rattle.ksi_ports.specs.Stored.{Held, with_file}
use Rattle.ksi_journal.specs.Journal.{Contents}
use Rattle.ksi_journal.specs.File.{IsJournalFile}
use Rattle.ksi_journal.specs.Written.{text_in}
use Rattle.ksi_journal.specs.declared.version.Version.TheVariants.{Two}
use Rattle.ksi_lines.specs.Lines.{line_text}
use Rattle.ksi_top.specs.declared.report.Report.{Report}
use Rattle.ksi_top.specs.Reports.{CommandRow, saving, ends, behind, WhereRead}
use Rattle.ksi_top.specs.Loading.{content, loaded_journal, file_limit}
use Rattle.ksi_top.specs.Sign.{sign_command}
use Rattle.ksi_top.specs.Publish.{publish_command}
use Rattle.ksi_top.specs.Extend.{extend_command}
use Rattle.ksi_top.specs.Audit.{audit_command}
use Rattle.ksi_top.specs.Front.{front_command}
use Rattle.ksi_top.specs.Compare.{compare_command}

abbrev pub migrated_line : ℕ → List ℕ
migrated_line seconds = line_text (codes "migrated" ∷ decimal seconds ∷ [])

-- the journal is saved in version 2, and the number of its kept seconds is reported
abbrev pub migrated : (new : List ℕ) → Contents → Report
migrated new journal = saving (migrated_line (length journal.seconds)) new (text_in Two journal)

-- Every other command over a journal gives over the new file, once it is held, what it gave over the old one before, where
-- its other files are as they were.
pub record GivesTheSame (before after : Held) (old new : List ℕ) : Type 0 where
  pub signs : (number : ℕ) (out : List ℕ) → (sign_command new number out).ran after ≡ (sign_command old number out).ran before
  pub publishes : (out : List ℕ) → (publish_command new out).ran after ≡ (publish_command old out).ran before
  pub extends : (signature : List ℕ) (second : ℕ) (out : List ℕ) → content after signature ≡ content before signature →
      (extend_command new signature second out).ran after ≡ (extend_command old signature second out).ran before
  pub audits : (signature hash publications : List ℕ) → content after signature ≡ content before signature →
      content after publications ≡ content before publications →
      (audit_command new signature hash publications).ran after ≡ (audit_command old signature hash publications).ran before
  pub fronts : (p1 p2 : ℕ) (out : List ℕ) → (front_command new p1 p2 out).ran after ≡ (front_command old p1 p2 out).ran before
  -- as the older journal, and as the newer one
  pub compares : (other proof : List ℕ) → content after other ≡ content before other → content after proof ≡ content before proof →
      (compare_command new other proof).ran after ≡ (compare_command old other proof).ran before
  pub compares_with : (other proof : List ℕ) → content after other ≡ content before other → content after proof ≡ content before proof →
      (compare_command other new proof).ran after ≡ (compare_command other old proof).ran before
  -- as both
  pub compares_itself : (proof : List ℕ) → content after proof ≡ content before proof →
      (compare_command new new proof).ran after ≡ (compare_command old old proof).ran before

-- What is saved is a journal file of the journal that was loaded, and is no longer than what was loaded. So it is within the
-- limit, and is read as the old one.
pub record IsMigrated (held : Held) (old new : List ℕ) (report : Report) : Type 0 where
  pub journal : Contents
  pub journal_is : IsJournalFile imprint_of (content held old) journal
  pub reported : report ≡ migrated new journal
  pub again : IsJournalFile imprint_of (text_in Two journal) journal
  pub short : length (text_in Two journal) ≤ length (content held old)
  pub same : GivesTheSame held (with_file held new (text_in Two journal)) old new

-- the journal is loaded, and is saved in version 2
abbrev pub migrate_command : (old new : List ℕ) → CommandRow
migrate_command old new = record {
  files = (1, file_limit) ∷ [];
  saves = 1;
  ran = λ held. behind (loaded_journal 1 held old) (λ j. ends (migrated new j));
  means = λ held. WhereRead (IsMigrated held old new);
}
