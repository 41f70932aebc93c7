-- The command `whole`.
use Rattle.std.specs.Prelude.{◌≡◌, ℕ, List, [], ◌∷◌, codes, length, Result, Ok, Err}
use Rattle.std.specs.Fmt.{decimal}
use Rattle.ksi_imprint.specs.Imprints.{imprint_of}
use Rattle.ksi_journal.specs.File.{IsJournalFile}
use Rattle.ksi_journal.specs.Journal.{Contents}
use Rattle.ksi_journal.specs.Written.{journal_text}
use Rattle.ksi_mirror.specs.declared.refusal.WholeRefusal.{WholeRefusal}
use Rattle.ksi_mirror.specs.File.{IsMirrorFile}
use Rattle.ksi_mirror.specs.Mirrors.{MirrorState}
use Rattle.ksi_mirror.specs.Whole.{whole_of}
use Rattle.ksi_lines.specs.Lines.{line_text}
use Rattle.ksi_lines.specs.Mirrors.{not_whole_line}
use Rattle.ksi_top.specs.declared.report.Report.{Report}
use Rattle.ksi_top.specs.declared.status.Status.TheVariants.{Refused}
use Rattle.ksi_top.specs.Reports.{CommandRow, report, saving, ends, behind, WhereRead}
use Rattle.ksi_top.specs.Loading.{content, loaded_mirror, file_limit}

abbrev pub whole_line : (roots : ℕ) → List ℕ
whole_line roots = line_text (codes "whole" ∷ decimal roots ∷ [])

-- the journal is saved, and the number of its kept seconds is reported
abbrev pub whole_saved : (out : List ℕ) → Contents → Report
whole_saved out journal = saving (whole_line (length journal.seconds)) out (journal_text journal)

abbrev pub whole_report : (out : List ℕ) → Result Contents WholeRefusal → Report
whole_report out (Ok journal) = whole_saved out journal
whole_report out (Err refusal) = report Refused (not_whole_line refusal)

abbrev pub made_whole : (out : List ℕ) → MirrorState → Report
made_whole out mirror = whole_report out (whole_of imprint_of mirror)

-- what is saved is a journal file, and is read again as the journal
abbrev pub IsWholeAnswer : Result Contents WholeRefusal → Type 0
IsWholeAnswer (Ok journal) = IsJournalFile imprint_of (journal_text journal) journal
IsWholeAnswer (Err refusal) = Unit {0}

pub record IsWholeOf (mirror : MirrorState) (out : List ℕ) (report : Report) : Type 0 where
  pub answer : Result Contents WholeRefusal
  pub answer_is : answer ≡ whole_of imprint_of mirror
  pub reported : report ≡ whole_report out answer
  pub shown : IsWholeAnswer answer

pub record IsMadeWhole (bytes out : List ℕ) (report : Report) : Type 0 where
  pub mirror : MirrorState
  pub mirror_is : IsMirrorFile bytes mirror
  pub of : IsWholeOf mirror out report

-- the mirror is loaded, and its journal is saved
abbrev pub whole_command : (mirror out : List ℕ) → CommandRow
whole_command mirror out = record {
  files = (1, file_limit) ∷ [];
  saves = 1;
  ran = λ held. behind (loaded_mirror 1 held mirror) (λ m. ends (made_whole out m));
  means = λ held. WhereRead (IsMadeWhole (content held mirror) out);
}
